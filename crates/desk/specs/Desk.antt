-- The numbers that the desk's functions hand to C: document 01, "Desk and layers", and document 02, W1, W2 and W4.
pub mod Laws
use Rattle.std.specs.Prelude.{ℕ, ◌+◌, ◌<◌, length, Option, Some, None}
use Rattle.fields.specs.{Bytes.Text, Children.cue_number, Limits.max_row}
use Rattle.model.specs.{declared.verdict.Verdict.Verdict, Word.Word, Fault.model_number}
use Rattle.model.specs.declared.verdict.Verdict.TheVariants.{Complete, Open, Dead}
use Rattle.judge.specs.{Row.judge_number, Next.NextReply, Next.next_listed, Next.next_refused, Next.children_next, Next.children_row_after}
use Rattle.judge.specs.FirstFault.{children_fault}
use Rattle.judge.specs.declared.fault.TextFault.{TextFault, TheVariants.Model, TheVariants.Children}
use Rattle.canonical.specs.Canonical.{WriteReply, wrote, refused_write, write_reply, write_number, buffer_written}
use Rattle.judge.specs.Reply.{Reply, model_refused, children_refused, good, children_reply}

-- document 01's numbers
abbrev pub reply_number : {A : Type 0} → (A → ℕ) → Reply A → ℕ
reply_number n (model_refused f) = model_number f
reply_number n (children_refused f) = cue_number f
reply_number n (good v) = n v

abbrev pub text_number : TextFault → ℕ
text_number (Model f) = model_number f
text_number (Children f) = cue_number f

abbrev pub verdict_number : Verdict → ℕ
verdict_number Complete = 0
verdict_number Open = 1
verdict_number Dead = 2

-- the number of the one reply that the meaning gives (`Desk.Laws.answer-exactly`)
abbrev pub desk_answer : Text → Text → ℕ
desk_answer m c = reply_number verdict_number (children_reply m c)

-- Where the number is a length or a place, a refusal's has this added (`Desk.Laws.next-told`, `Desk.Laws.fault-exactly`: so they are told apart).
abbrev pub refusal_base : ℕ
refusal_base = 2147483648

abbrev pub based_number : {A : Type 0} → (A → ℕ) → Reply A → ℕ
based_number n (model_refused f) = refusal_base + model_number f
based_number n (children_refused f) = refusal_base + cue_number f
based_number n (good v) = n v

-- how many names are listed, or the refusal
abbrev pub next_number : NextReply → ℕ
next_number (next_listed l) = length l
next_number (next_refused f) = refusal_base + judge_number f

-- with a lent row of k places
abbrev pub desk_next : Text → Text → ℕ → ℕ
desk_next m c k = based_number next_number (children_next m c k)

-- the lent row at exit: the list, then the places as they were; or all as they were
abbrev pub desk_row : Text → Text → Word → Word
desk_row m c lent = children_row_after (children_next m c (length lent)) lent

-- the place of the first child that is foreign or one too many of its name, or that there is none
abbrev pub fault_number : Option ℕ → ℕ
fault_number (Some p) = p
fault_number None = 65535

abbrev pub desk_fault : Text → Text → ℕ
desk_fault m c = based_number fault_number (children_fault m c)

-- a reply whose place, if it has one, is that of one of 4,096 children
abbrev pub PlaceFits : Reply (Option ℕ) → Type 0
PlaceFits (model_refused f) = Unit {0}
PlaceFits (children_refused f) = Unit {0}
PlaceFits (good (Some p)) = p < max_row
PlaceFits (good None) = Unit {0}

-- how long the text is that was written, or the refusal (document 02, W4)
abbrev pub write_reply_number : WriteReply → ℕ
write_reply_number (wrote y) = length y
write_reply_number (refused_write f p) = refusal_base + write_number f

-- with a lent buffer of k bytes
abbrev pub desk_canonical : Text → ℕ → ℕ
desk_canonical m k = write_reply_number (write_reply m k)

-- the lent buffer at exit: the text, then the bytes as they were; or all as they were
abbrev pub desk_text : Text → Text → Text
desk_text m b = buffer_written (write_reply m (length b)) b
