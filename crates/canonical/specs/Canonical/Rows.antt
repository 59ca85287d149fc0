-- The one way to write a model keeps its rows, by any numbering of the names.
use Rattle.std.specs.Prelude.{◌↔◌, ℕ}
use Rattle.fields.specs.Bytes.{Text}
use Rattle.model.specs.{Word.Word, Syntax.Syntax, Tree.MarksFit, Types.Holds, Model.type_with}
use Rattle.model.proofs.TypesLanguages.{thus}
use Rattle.canonical.specs.{Meaning.meaning, Tidy.tidy, Tidy.Rows.tidy-rows, Order.Rows.order-rows, Canonical.canonical, Canonical.Fixed.canonical-tidy}

pub canonical-rows : (ν : Text → ℕ) (t : Syntax) → MarksFit t → (w : Word)
    → Holds (type_with (meaning ν) (canonical t)) w ↔ Holds (type_with (meaning ν) t) w
canonical-rows ν t h = rw (canonical-tidy t) (thus (order-rows (meaning ν) (tidy t)) (tidy-rows ν t h))
