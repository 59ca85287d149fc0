-- Each return is one case of what the count at the place says (`Reading.Atom`).
use Rattle.std.proofs.Common.{sym, ◌∙◌}
use Rattle.std.proofs.lemmas.Result.{err_from_is_err_and}
use Rattle.judge.specs.Reading.Atom.{atom-bare, atom-counted, atom-refused}
use Rattle.judge.proofs.reader.atom_rest.Goals as goal

pub returns-in_err-read : goal.returns-in_err-read
returns-in_err-read c =
    let p = err_from_is_err_and c.from_residual.result c.from_residual.ensures.1 in
    rw (p.1, p.2) (atom-refused c.requires (sym c.stands.ensures ∙ c.if-stands.true) c.count.ensures c.in_err-read.was)

pub returns-then-stands : goal.returns-then-stands
returns-then-stands c =
    atom-counted c.requires (sym c.stands.ensures ∙ c.if-stands.true) c.count.ensures c.in_ok-read.was c.counted_atom.ensures

pub returns : goal.returns
returns c = atom-bare c.requires (sym c.stands.ensures ∙ c.if-stands.false) c.counted_atom-2.ensures
