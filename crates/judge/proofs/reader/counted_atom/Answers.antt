use Rattle.judge.proofs.reader.counted_atom.Goals as goal

pub returns : goal.returns
returns c = record {
  word = c.packed_atom.result;
  limit = c.limit_word.result;
  word_is = c.packed_atom.ensures;
  limit_is = c.limit_word.ensures;
  marked = c.mark.ensures;
}
