-- A verdict, a first fault or a refusal is known by its number, and a list of names is told from a refusal.
use mathlib.Core.{Path.◌≡◌, Path.refl, Path.sym, Path.ap, Path.◌∙◌, Logic.◌↔◌, Logic.by_cases}
use Rattle.std.specs.Prelude.{ℕ, ◌≤◌, ◌<◌, length, Option, Some, None, Ok}
use native.Mathlib.{Decide.dec_lt, Omega.arith}
use Rattle.std.proofs.lemmas.List.{length-map}
use Rattle.fields.specs.{declared.fault.CueFault.CueFault, Bytes.Text, Children.cue_number, Limits.max_atoms, Limits.max_row, Limits.max_text}
use Rattle.fields.specs.declared.fault.CueFault.TheVariants.{LongFile, Unended, BadFields, BadNumber, NotAbove, NoName, ManyChildren, NoChild}
use Rattle.model.specs.{declared.fault.ModelFault.ModelFault, declared.verdict.Verdict.Verdict, Word.Word, Types.Ty, Types.ConflictFree, Fault.model_number}
use Rattle.model.specs.{Fault.Answers, Fault.accepted, Syntax.Syntax, Syntax.number_in, Syntax.written_names, Tree.leaves, Tree.Leaves.length-leaves}
use Rattle.model.specs.{Model.model_of, Model.encode}
use Rattle.model.specs.{Model.Types.type-conflict-free}
use Rattle.model.proofs.AcceptLaws.{accepted-within, accepted-counts}
use Rattle.model.specs.declared.verdict.Verdict.TheVariants.{Complete, Open, Dead}
use Rattle.model.proofs.FaultAnswered.{number-injective, number-over, number-under}
use Rattle.judge.specs.{declared.fault.JudgeFault.JudgeFault, Row.judge_number, Reply.Laws.cue-injective, Reply.Laws.judges-exactly}
use Rattle.judge.specs.declared.fault.JudgeFault.TheVariants.{Unreadable, LongRow, BadTrail, UnknownName, NoRoom, NothingToTakeBack, ShortRow}
use Rattle.judge.specs.FirstFault.{upper_counts, ChildrenFaultStands, children_fault}
use Rattle.judge.proofs.FirstFaultLaws.{fault-place, fault-replies-exactly}
use Rattle.judge.specs.Reply.{Reply, model_refused, children_refused, good, ChildrenJudges, children_reply, result_of, children_in, row_in, many_children}
use Rattle.judge.specs.Next.{NextReply, next_listed, next_refused, NextInto, all_listed, children_next, children_answer}
use Rattle.judge.specs.Next.Laws.{list-exactly, next-few, next-replies-exactly}
use Rattle.desk.specs.Desk.{reply_number, verdict_number, desk_answer, refusal_base, based_number, next_number, desk_next, fault_number, desk_fault, PlaceFits}
use Rattle.desk.specs.Desk.{write_reply_number, desk_canonical}
use Rattle.canonical.specs.{declared.fault.WriteFault.WriteFault, Canonical.Reply.written-short}
use Rattle.canonical.specs.declared.fault.WriteFault.TheVariants.{Model, LongText}
use Rattle.canonical.specs.Canonical.{WriteReply, wrote, refused_write, write_reply, write_number, written_of, Writes}
use Rattle.canonical.specs.Ends.{writes-exactly}

-- those of the model text are 10 to 19, those of the children text 30 to 37, verdicts below 3
pub model-under : (f : ModelFault) → (10 ≤ model_number f) × (model_number f < 20)
model-under f = (number-over f, number-under f)

pub cue-under : (f : CueFault) → (30 ≤ cue_number f) × (cue_number f < 38)
cue-under LongFile = (omega arith, omega arith)
cue-under Unended = (omega arith, omega arith)
cue-under BadFields = (omega arith, omega arith)
cue-under BadNumber = (omega arith, omega arith)
cue-under NotAbove = (omega arith, omega arith)
cue-under NoName = (omega arith, omega arith)
cue-under ManyChildren = (omega arith, omega arith)
cue-under NoChild = (omega arith, omega arith)

pub judge-under : (f : JudgeFault) → judge_number f < 47
judge-under Unreadable = omega arith
judge-under LongRow = omega arith
judge-under BadTrail = omega arith
judge-under UnknownName = omega arith
judge-under NoRoom = omega arith
judge-under NothingToTakeBack = omega arith
judge-under ShortRow = omega arith

verdict-under : (v : Verdict) → verdict_number v < 3
verdict-under Complete = omega arith
verdict-under Open = omega arith
verdict-under Dead = omega arith

verdict-injective : (u v : Verdict) → verdict_number u ≡ verdict_number v → u ≡ v
verdict-injective Complete Complete e = refl
verdict-injective Complete Open e = absurd (omega arith)
verdict-injective Complete Dead e = absurd (omega arith)
verdict-injective Open Complete e = absurd (omega arith)
verdict-injective Open Open e = refl
verdict-injective Open Dead e = absurd (omega arith)
verdict-injective Dead Complete e = absurd (omega arith)
verdict-injective Dead Open e = absurd (omega arith)
verdict-injective Dead Dead e = refl

reply-injective : (r s : Reply Verdict) → reply_number verdict_number r ≡ reply_number verdict_number s → r ≡ s
reply-injective (model_refused f) (model_refused g) e = let d : f ≡ g = number-injective f g e in cc
reply-injective (model_refused f) (children_refused g) e = absurd (omega (arith, model-under f, cue-under g))
reply-injective (model_refused f) (good v) e = absurd (omega (arith, model-under f, verdict-under v))
reply-injective (children_refused f) (model_refused g) e = absurd (omega (arith, cue-under f, model-under g))
reply-injective (children_refused f) (children_refused g) e = let d : f ≡ g = cue-injective f g e in cc
reply-injective (children_refused f) (good v) e = absurd (omega (arith, cue-under f, verdict-under v))
reply-injective (good u) (model_refused g) e = absurd (omega (arith, verdict-under u, model-under g))
reply-injective (good u) (children_refused g) e = absurd (omega (arith, verdict-under u, cue-under g))
reply-injective (good u) (good v) e = let d : u ≡ v = verdict-injective u v e in cc

pub answer-exactly : (m c : Text) (r : Reply Verdict) → (desk_answer m c ≡ reply_number verdict_number r) ↔ ChildrenJudges m c r
answer-exactly m c r = (
  λ e. (judges-exactly m c r).0 (reply-injective (children_reply m c) r e),
  λ h. ap (reply_number verdict_number) ((judges-exactly m c r).1 h),
)

-- a list is no longer than the model has names, at most 64
pub written-few : (m : Text) (t : Syntax) → Answers m (accepted t) → length (written_names t) ≤ max_atoms
written-few m t a = omega (arith, length-map (leaves t) (λ s. s.name), length-leaves t, (accepted-within m t a).few_atoms)

all-listed-few : {A : Ty} {n : ℕ} {w l : Word} {k : ℕ} → ConflictFree A → NextInto A n w k (next_listed l) → length l ≤ n
all-listed-few {A} {n} {w} {l} g (all_listed h i) = rw ((list-exactly A g n w l).1 h) at (next-few A g n w)

module _ (m c : Text) (k : ℕ) where
  list-few : (l : Word) → children_next m c k ≡ good (next_listed l) → length l ≤ max_atoms
  list-few l e =
      let (t, a, n, h) = (next-replies-exactly m c k (good (next_listed l))).0 e in
      omega (arith, written-few m t a, all-listed-few (type-conflict-free (model_of t) (accepted-counts m t a)) h)

  pub next-told : (desk_next m c k < refusal_base) ↔ ((l : Word) × (children_next m c k ≡ good (next_listed l)))
  next-told = (
    told (children_next m c k),
    λ (l, e). let b = list-few l e in let d : desk_next m c k ≡ length l = ap (based_number next_number) e in omega arith,
  )
    where
      told : (r : Reply NextReply) → based_number next_number r < refusal_base → (l : Word) × (r ≡ good (next_listed l))
      told (model_refused f) h = absurd (omega arith)
      told (children_refused f) h = absurd (omega arith)
      told (good (next_listed l)) h = (l, refl)
      told (good (next_refused f)) h = absurd (omega arith)

-- how many names the judge hands back
pub names-few : (m c : Text) (k n : ℕ) → Ok n ≡ children_answer (children_next m c k) → n ≤ max_atoms
names-few m c k n = go (children_next m c k) refl
  where
    go : (r : Reply NextReply) → children_next m c k ≡ r → Ok n ≡ children_answer r → n ≤ max_atoms
    go (model_refused f) h e = absurd (cc)
    go (children_refused f) h e = absurd (cc)
    go (good (next_listed l)) h e = let d : n ≡ length l = cc in omega (arith, list-few m c k l h)
    go (good (next_refused f)) h e = absurd (cc)

-- no two replies whose places fit have one number
fault-injective : (r s : Reply (Option ℕ)) → PlaceFits r → PlaceFits s → based_number fault_number r ≡ based_number fault_number s → r ≡ s
fault-injective (model_refused f) (model_refused g) h k e = let d : f ≡ g = number-injective f g (omega arith) in cc
fault-injective (model_refused f) (children_refused g) h k e = absurd (omega (arith, model-under f, cue-under g))
fault-injective (model_refused f) (good (Some q)) h k e = absurd (omega arith)
fault-injective (model_refused f) (good None) h k e = absurd (omega arith)
fault-injective (children_refused f) (model_refused g) h k e = absurd (omega (arith, cue-under f, model-under g))
fault-injective (children_refused f) (children_refused g) h k e = let d : f ≡ g = cue-injective f g (omega arith) in cc
fault-injective (children_refused f) (good (Some q)) h k e = absurd (omega arith)
fault-injective (children_refused f) (good None) h k e = absurd (omega arith)
fault-injective (good (Some p)) (model_refused g) h k e = absurd (omega arith)
fault-injective (good (Some p)) (children_refused g) h k e = absurd (omega arith)
fault-injective (good (Some p)) (good (Some q)) h k e = let d : p ≡ q = e in cc
fault-injective (good (Some p)) (good None) h k e = absurd (omega arith)
fault-injective (good None) (model_refused g) h k e = absurd (omega arith)
fault-injective (good None) (children_refused g) h k e = absurd (omega arith)
fault-injective (good None) (good (Some q)) h k e = absurd (omega arith)
fault-injective (good None) (good None) h k e = refl

module _ (m c : Text) where
  -- a child at fault is one of the children, and those are few
  stands-fits : (r : Reply (Option ℕ)) → ChildrenFaultStands m c r → PlaceFits r
  stands-fits (model_refused f) h = tt
  stands-fits (children_refused f) h = tt
  stands-fits (good None) h = tt
  stands-fits (good (Some p)) (t, a, n, f) =
      by_cases (dec_lt max_row (length (children_in c)))
      (λ l. absurd (n ManyChildren (many_children l)))
      (λ l. omega (arith, fault-place (upper_counts (encode (model_of t))) (row_in t c) f.0, length-map (children_in c) (number_in (written_names t))))

  fault-fits : PlaceFits (children_fault m c)
  fault-fits = stands-fits (children_fault m c) ((fault-replies-exactly m c (children_fault m c)).0 refl)

  pub fault-exactly : (r : Reply (Option ℕ)) → ((desk_fault m c ≡ based_number fault_number r) × PlaceFits r) ↔ ChildrenFaultStands m c r
  fault-exactly r = (
    λ (e, h). (fault-replies-exactly m c r).0 (fault-injective (children_fault m c) r fault-fits h e),
    λ k. (ap (based_number fault_number) ((fault-replies-exactly m c r).1 k), stands-fits r k),
  )

  -- the place that the judge hands back
  pub place-few : (p : ℕ) → Ok (Some p) ≡ result_of (children_fault m c) → p < max_row
  place-few p = go (children_fault m c) fault-fits
    where
      go : (r : Reply (Option ℕ)) → PlaceFits r → Ok (Some p) ≡ result_of r → p < max_row
      go (model_refused f) h e = absurd (cc)
      go (children_refused f) h e = absurd (cc)
      go (good (Some q)) h e = let z : p ≡ q = cc in omega arith
      go (good None) h e = absurd (cc)

-- the canonical text: 51, and the model text's own
pub write_under : (f : WriteFault) → write_number f < 52
write_under (Model f) = omega (arith, model-under f)
write_under LongText = omega arith

-- the canonical text
pub canonical-exactly : (m : Text) (k n : ℕ) → (desk_canonical m k ≡ n) ↔ ((r : WriteReply) × Writes m k r × (write_reply_number r ≡ n))
canonical-exactly m k n = (
  λ e. (write_reply m k, (writes-exactly m k (write_reply m k)).1 refl, e),
  λ (r, h, e). ap write_reply_number (sym ((writes-exactly m k r).0 h)) ∙ e,
)

pub canonical-told : (m : Text) (k : ℕ) → (desk_canonical m k < refusal_base) ↔ ((y : Text) × (write_reply m k ≡ wrote y))
canonical-told m k = told (write_reply m k) refl
  where
    told : (r : WriteReply) → write_reply m k ≡ r → (write_reply_number r < refusal_base) ↔ ((y : Text) × (r ≡ wrote y))
    told (wrote y) e = (λ h. (y, refl), λ h. omega (arith, written-short m y k (sym e)))
    told (refused_write f p) e = (λ h. absurd (omega (arith, h)), λ h. let z : ◌≡◌ {A = ℕ} 0 1 = cc h.1 in absurd (omega arith))

-- the length that `write_model` hands back
pub length-few : (m : Text) (k n : ℕ) → Ok n ≡ written_of (write_reply m k) → n ≤ max_text
length-few m k n = go (write_reply m k) refl
  where
    go : (r : WriteReply) → write_reply m k ≡ r → Ok n ≡ written_of r → n ≤ max_text
    go (wrote y) e h = let i : n ≡ length y = cc in omega (arith, i, written-short m y k (sym e))
    go (refused_write f p) e h = absurd (cc)
