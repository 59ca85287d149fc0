-- The first child of a row that is foreign or one too many of its name: document 02, W2. In proofs/:
--   FirstFaultLaws     there is one answer, and the functions compute it
--   FirstFaultMeaning  a row with such a child is dead; in a row without one, every name is known and no count is over its upper end
use mathlib.Core.{Path.◌≡◌, Bool.Bool, Bool.not, Bool.cond, List.List, List.[], List.◌∷◌}
use Rattle.std.specs.Prelude.{ℕ, zero, suc, ◌<◌, ◌≤◌, length, take, slice_index, Option, Some, None, Result, Ok, Err}
use Rattle.fields.specs.{Bytes.Text, Limits.max_row, Least.Least, Least.NoneStands}
use Rattle.model.specs.{declared.rule.Upper.Upper, declared.rule.Upper.TheVariants.Number, declared.rule.Kind.Kind, declared.rule.Node.Node}
use Rattle.model.specs.{declared.rule.Rule.Rule, Word.Word, Word.count, Types.Ty, Types.ε, Types.atom, Types.join, Types.Under, Membership.under}
use Rattle.model.specs.Types.{nonempty}
use Rattle.model.specs.{Model.model_of, Model.encode}
use Rattle.model.specs.Rule.{Readable, used, names, nth}
use Rattle.model.specs.declared.rule.Kind.TheVariants.{Atom, Group}
use Rattle.judge.specs.declared.fault.JudgeFault.{JudgeFault}
use Rattle.judge.specs.{declared.fault.TextFault.TextFault, Row.Upto, Row.Judges, Row.row_tested}
use Rattle.judge.specs.Reply.{row, Reply, Replies, reply, row_in, result_of}

-- the upper counts of the atoms among the nodes, in the order of their names
abbrev pub with_upper : Kind → List Upper → List Upper
with_upper (Atom lo hi) us = hi ∷ us
with_upper (Group s n) us = us

abbrev pub upper_counts : List Node → List Upper
upper_counts [] = []
upper_counts (x ∷ l) = with_upper x.kind (upper_counts l)

-- the upper count of a name, by its number from 1; of a foreign name no child is allowed
abbrev pub allowed : List Upper → ℕ → Upper
allowed us x = nth (Number 0) us x

-- f gives the upper count of each atom of a type, by its name (`Ends.upper-counts`: so do a rule's upper counts for the type that it means)
abbrev pub CountsAre : (ℕ → Upper) → Ty → Type 0
CountsAre f ε = Unit {0}
CountsAre f (atom a m n) = f a ≡ n
CountsAre f (join o A B) = CountsAre f A × CountsAre f B
CountsAre f (nonempty A) = CountsAre f A

-- The child at place p is foreign, or its name stands more often in the row up to and with it than the name's upper count allows.
pub data FaultAt (us : List Upper) (w : Word) (p : ℕ) : Type 0 where
  foreign : p < length w → slice_index w p ≡ 0 → FaultAt us w p
  one_too_many : p < length w → ¬ Under (count (slice_index w p) (take (suc p) w)) (allowed us (slice_index w p)) → FaultAt us w p

-- the place of the first such child, or that there is none (`FirstFaultLaws.first-exactly`: there is one answer, and only one)
abbrev pub FirstFaultIs : List Upper → Word → Option ℕ → Type 0
FirstFaultIs us w (Some p) = Least (λ q. q) (FaultAt us w) p
FirstFaultIs us w None = NoneStands (FaultAt us w)

-- by a rule: refused as judging is, or by its upper counts (`Ends.first-fault-exactly`: there is one answer, and only one)
pub data JudgesFault (r : Rule) (w : Word) : Result (Option ℕ) JudgeFault → Type 0 where
  not_searched : {f : JudgeFault} → Judges r w (Err f) → JudgesFault r w (Err f)
  by_counts : {a : Option ℕ} → Readable r → length w ≤ max_row → Upto (names r) w → FirstFaultIs (upper_counts (used r)) w a → JudgesFault r w (Ok a)

-- by texts
abbrev pub ChildrenFaultStands : Text → Text → Reply (Option ℕ) → Type 0
ChildrenFaultStands m c = Replies row (λ t a. FirstFaultIs (upper_counts (encode (model_of t))) (row_in t c) a) m c

-- The same as functions: the test of one place, and the first of the n places from i on that passes a test.
unfoldable pub is_fault : List Upper → Word → ℕ → Bool
is_fault us w p = not (under (count (slice_index w p) (take (suc p) w)) (allowed us (slice_index w p)))

abbrev pub first_where : (ℕ → Bool) → ℕ → ℕ → Option ℕ
first_where f i zero = None
first_where f i (suc n) = cond (f i) (Some i) (first_where f (suc i) n)

unfoldable pub first_fault : List Upper → Word → Option ℕ
first_fault us w = first_where (is_fault us w) 0 (length w)

abbrev pub searched_if : Option ℕ → Result ℕ JudgeFault → Result (Option ℕ) JudgeFault
searched_if a (Ok n) = Ok a
searched_if a (Err f) = Err f

unfoldable pub fault_judged : Rule → Word → Result (Option ℕ) JudgeFault
fault_judged r w = searched_if (first_fault (upper_counts (used r)) w) (row_tested r w)

unfoldable pub children_fault : Text → Text → Reply (Option ℕ)
children_fault m c = reply row (λ t. first_fault (upper_counts (encode (model_of t))) (row_in t c)) m c

-- as `search_children` hands it back
abbrev pub searched_of : Reply (Option ℕ) → Result (Option ℕ) TextFault
searched_of = result_of
