-- The one way to write a model: document 02, W4. Below it:
--   Rows, Carried, Names, Held  the same rows, by any numbering, and of names as written
--   Fixed                       the form, and that to write it again changes nothing
--   Depth, Accepted             no deeper, and accepted
--   Reply                       there is one reply, and only one
pub mod Rows
pub mod Carried
pub mod Names
pub mod Fixed
pub mod Depth
pub mod Accepted
pub mod Held
pub mod Reply
use mathlib.Core.{Path.◌≡◌, Bool.cond, List.List, List.◌++◌}
use Rattle.std.specs.Prelude.{ℕ, ◌≤◌, ◌<◌, Result, Ok, Err}
use lib.{Dec.leb, ListN.length, ListN.drop}
use Rattle.fields.specs.Bytes.{Text}
use Rattle.model.specs.{Types.Holds, Model.model_of, Model.type_of, Flatten.flatten}
use Rattle.judge.specs.Answer.{answer}
use Rattle.model.specs.Fault.{Answer, Answers, refused, accepted, model_number}
use Rattle.model.specs.Syntax.{Syntax, text, written_names}
use Rattle.judge.specs.Named.{row_of}
use Rattle.canonical.specs.{declared.fault.WriteFault.WriteFault, declared.fault.Unwritten.Unwritten, Tidy.tidy, Order.order}
use Rattle.canonical.specs.declared.fault.WriteFault.TheVariants.{Model, LongText}

-- flattened as in W3; counts and marks in one way; members in order
abbrev pub canonical : Syntax → Syntax
canonical t = order (tidy (flatten t))

abbrev pub canonical_text : Syntax → Text
canonical_text t = text (canonical t)

-- a row of names as written is held, as the judge numbers it
abbrev pub HoldsNames : Syntax → List Text → Type 0
HoldsNames t w = Holds (type_of (model_of t)) (row_of (written_names t) w)

-- the numbers of documents 01 and 02
abbrev pub write_number : WriteFault → ℕ
write_number (Model f) = model_number f
write_number LongText = 51

-- What a model text is answered, for a buffer of k bytes: the text that is written, or a refusal with its place.
pub data WriteReply : Type 0 where
  wrote : Text → WriteReply
  refused_write : WriteFault → ℕ → WriteReply

abbrev pub write_fitting : Text → ℕ → WriteReply
write_fitting y k = cond (leb (length y) k) (wrote y) (refused_write LongText 0)

abbrev pub write_by : Answer → ℕ → WriteReply
write_by (refused f p) k = refused_write (Model f) p
write_by (accepted t) k = write_fitting (canonical_text t) k

abbrev pub write_reply : Text → ℕ → WriteReply
write_reply x k = write_by (answer x) k

-- as `write_model` hands it back
abbrev pub unwritten : WriteFault → ℕ → Unwritten
unwritten f p = record { fault = f; place = p }

abbrev pub written_of : WriteReply → Result ℕ Unwritten
written_of (wrote y) = Ok (length y)
written_of (refused_write f p) = Err (unwritten f p)

-- the buffer at exit: the text, then the bytes as they were; or all as they were
abbrev pub buffer_written : WriteReply → Text → Text
buffer_written (wrote y) b = y ++ drop (length y) b
buffer_written (refused_write f p) b = b

-- the same, by the table: the reply to x for a buffer of k bytes (`Canonical.Reply.writes-is`)
abbrev pub Writes : Text → ℕ → WriteReply → Type 0
Writes x k (wrote y) = (t : Syntax) × Answers x (accepted t) × (y ≡ canonical_text t) × (length y ≤ k)
Writes x k (refused_write (Model f) p) = Answers x (refused f p)
Writes x k (refused_write LongText p) = (p ≡ 0) × ((t : Syntax) × Answers x (accepted t) × (k < length (canonical_text t)))
