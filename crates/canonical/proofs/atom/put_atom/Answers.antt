use Rattle.std.proofs.Common.{◌+◌, ◌-◌, length-take, length-drop, arith, rules}
use Prim.Native.{Char.code}
use Rattle.fields.specs.{Put.Laws.put-fits}
use Rattle.canonical.specs.Writer.Put.{put-set}
use Rattle.canonical.specs.Writer.Place.Ends.{KeptEnds, piece-raised, piece-same, kept-inside, kept-length, piece-length, piece-short}
use Rattle.canonical.proofs.atom.put_atom.Goals as goal
use Rattle.canonical.proofs.atom.put_atom.Goals.{else-name-end-via-then-name-end+else-text-name-eq48, else-name-end-via-else-name-end}

pub slice_bounds-put-end : goal.slice_bounds-put-end
slice_bounds-put-end c =
    let i = kept-inside (record { name_is = c.name_end-name.ensures; kept_is = c.kept_end-end.ensures }) c.requires.0 in
    search (rules, i)

pub returns-then-text-name-eq48 : goal.returns-then-text-name-eq48
returns-then-text-name-eq48 c =
    let k : KeptEnds c.args.text.now c.args.at c.name_end-name.result c.kept_end-end.result
    = record { name_is = c.name_end-name.ensures; kept_is = c.kept_end-end.ensures } in
    let p = put-fits c.args.buffer.now c.put-next.new.buffer c.args.to _ c.put-next.result
    (rw (length-take, length-drop) (omega (arith, piece-length k c.requires.0, kept-inside k c.requires.0, c.requires.1)))
    c.put-next.ensures.value c.put-next.ensures.buffer_after in
    rw (piece-raised k (omega arith) c.if-text-name-eq48.true)
    (put-set p (c.name_end-name.result + 1 - c.args.at) (code "1") (omega (arith, kept-length k c.requires.0, kept-inside k c.requires.0)))

pub returns-else-name-end : goal.returns-else-name-end
returns-else-name-end c =
    let k : KeptEnds c.args.text.now c.args.at c.name_end-name.result c.kept_end-end.result
    = record { name_is = c.name_end-name.ensures; kept_is = c.kept_end-end.ensures } in
    let p = put-fits c.args.buffer.now c.put-next.new.buffer c.args.to _ c.put-next.result
    (rw (length-take, length-drop) (omega (arith, piece-length k c.requires.0, kept-inside k c.requires.0, c.requires.1)))
    c.put-next.ensures.value c.put-next.ensures.buffer_after in
    elim c.else-name-end.branch [
      | else-name-end-via-then-name-end+else-text-name-eq48 w ↦ rw (piece-same k w.if-text-name-eq48.false) p
      | else-name-end-via-else-name-end w ↦ rw (piece-short k c.requires.0 w.if-name-end.false) p
    ]
