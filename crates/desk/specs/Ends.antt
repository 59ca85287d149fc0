-- The ends: what the desk's promises come to. Each proof is a citation.
use mathlib.Core.{Path.◌≡◌, Logic.◌↔◌}
use Rattle.std.specs.Prelude.{ℕ, ◌<◌, Option}
use Rattle.model.specs.{declared.verdict.Verdict.Verdict, Word.Word}
use Rattle.fields.specs.Bytes.{Text}
use Rattle.judge.specs.{Reply.Reply, Reply.good, Reply.ChildrenJudges, Next.NextReply, Next.next_listed, Next.ChildrenNextStands, Next.children_next}
use Rattle.judge.specs.FirstFault.{ChildrenFaultStands}
use Rattle.judge.proofs.Ends.{children-next-exactly}
use Rattle.desk.specs.{Desk.reply_number, Desk.verdict_number, Desk.desk_answer, Desk.refusal_base, Desk.desk_next, Desk.Laws.answer-exactly}
use Rattle.desk.specs.{Desk.based_number, Desk.fault_number, Desk.desk_fault, Desk.PlaceFits, Desk.Laws.fault-exactly}
use Rattle.canonical.specs.Canonical.{WriteReply, wrote, write_reply, Writes}
use Rattle.desk.specs.{Desk.write_reply_number, Desk.desk_canonical, Desk.Laws.canonical-exactly, Desk.Laws.canonical-told}
use Rattle.desk.specs.{Desk.Laws.next-told, Child.Part, Child.Finds, Child.found, Child.Laws.finds-exactly}

-- `desk_judge`: the number is that of the one reply that the meaning gives
pub desk-exactly : (m c : Text) (r : Reply Verdict) → (desk_answer m c ≡ reply_number verdict_number r) ↔ ChildrenJudges m c r
desk-exactly = answer-exactly

-- `desk_next`: its number is `desk_next`, which is the number of this one reply, and the row that it is lent holds the reply's list. Below 2,147,483,648
-- it is the length of a list, from there on a refusal.
pub desk-next-exactly : (m c : Text) (k : ℕ) (r : Reply NextReply) → (children_next m c k ≡ r) ↔ ChildrenNextStands m c k r
desk-next-exactly = children-next-exactly

pub desk-next-told : (m c : Text) (k : ℕ) → (desk_next m c k < refusal_base) ↔ ((l : Word) × (children_next m c k ≡ good (next_listed l)))
desk-next-told = next-told

-- `desk_first_fault`: its number is that of the one reply by the upper counts, whose place is that of one of 4,096 children; no other such reply has it.
pub desk-fault-exactly : (m c : Text) (r : Reply (Option ℕ))
    → ((desk_fault m c ≡ based_number fault_number r) × PlaceFits r) ↔ ChildrenFaultStands m c r
desk-fault-exactly = fault-exactly

-- `desk_canonical`: the number is that of the one reply by the table, and the buffer that it is lent holds the reply's text. Below 2,147,483,648 it is the
-- length of a text, from there on a refusal.
pub desk-canonical-exactly : (m : Text) (k n : ℕ) → (desk_canonical m k ≡ n) ↔ ((r : WriteReply) × Writes m k r × (write_reply_number r ≡ n))
desk-canonical-exactly = canonical-exactly

pub desk-canonical-told : (m : Text) (k : ℕ) → (desk_canonical m k < refusal_base) ↔ ((y : Text) × (write_reply m k ≡ wrote y))
desk-canonical-told = canonical-told

-- `child` and `child_refusal`: one reply, and only one
pub child-exactly : (m c : Text) (k : ℕ) (r : Reply Part) → (found m c k ≡ r) ↔ Finds m c k r
child-exactly = finds-exactly
