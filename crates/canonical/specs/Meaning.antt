-- What an atom as written means, by a numbering of the names; `type_with` (model/Model) takes it to a tree.
use Rattle.std.specs.Prelude.{ℕ}
use Rattle.fields.specs.Bytes.{Text}
use Rattle.model.specs.{Types.Ty, Model.counts_of, Model.counted_type, Syntax.Spelling}

abbrev pub meaning : (Text → ℕ) → Spelling → Ty
meaning ν a = counted_type (ν a.name) (counts_of a.count).min (counts_of a.count).max
