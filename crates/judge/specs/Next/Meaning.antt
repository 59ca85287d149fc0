-- From what the passes know to the names that may come next: the set that the second pass ends with has just those.
use mathlib.Core.{Path.◌≡◌, Path.refl, Path.sym, Path.ap, Path.ap₂, Path.◌∙◌, List.List, List.[], List.◌∷◌, List.◌++◌, List.map}
use Rattle.std.specs.Prelude.{ℕ, zero, suc, ◌≤◌, Bool, true, false, cond, ◌&&◌, ◌||◌}
use Rattle.std.proofs.Common.{arith}
use lib.{Dec.leb, Dec.ltb, Bits.bit_or, Bits.or_zero_l, ListN.length, ListN.get_or}
use Rattle.model.specs.{declared.rule.Upper.Upper, declared.rule.Sign.Sign, declared.rule.Mark.Mark, declared.rule.Rule.Rule, Word.Word, Word.keep, Word.only}
use Rattle.model.specs.{Word.count}
use Rattle.model.proofs.{WordLaws.only_self, WordLaws.either_left, WordLaws.either-right, WordSpan.touched-behind, WordSpan.ordered-span}
use Rattle.model.specs.{Types.Operator, Types.Ty, Types.ε, Types.atom, Types.join, Types.symbols, Types.ConflictFree, Membership.under, Membership.alive}
use Rattle.model.specs.{Membership.over?}
use Rattle.model.specs.{Model.Model, Model.type_by, Model.type_of, Model.operator, Model.Eval.eval-map}
use Rattle.model.specs.{Model.Types.Fits, Model.Types.type-conflict-free, Model.Types.type-symbols, Rule.rule_of, Rule.names, Rule.rule_type, Rule.used}
use Rattle.model.specs.{Rule.Laws.rule-eval, Check.readable}
use Rattle.model.proofs.CheckExact.{readable-formed, rule-type}
use Rattle.model.specs.declared.rule.Mark.TheVariants.{Plain, Optional, Nonempty}
use Rattle.model.specs.Types.{nonempty}
use Rattle.judge.specs.{declared.tally.Seen.Seen, declared.ahead.Ahead.Ahead, Row.Attribute.seen, Row.Attribute.attribute}
use Rattle.judge.specs.{Row.Attribute.attribute_of}
use Rattle.judge.specs.{Row.Attribute.attribute-is, Row.Attribute.CountsWithin, Row.Joined.carried, Row.Pass.eval-same, Next.numbers_to, Next.next_names}
use Rattle.judge.specs.{Next.may_come}
use Rattle.judge.specs.{Next.Laws.kept-agreeing, Next.Longer.join-comes, Next.Longer.atom-comes, Next.Longer.may-come-is, Next.Set.single}
use Rattle.judge.specs.{Next.Set.in_set}
use Rattle.judge.specs.Next.Set.Laws.{in-none, in_either, in-only-if, in-single}
use Rattle.judge.specs.Next.Ahead.{first_open, second_open, pair_ahead, empty_ahead, ahead, ahead_by, root_ahead}

-- the attribute beside the set
part_is : (n : ℕ) (s : ℕ → Seen) (A : Ty) → (ahead n s A).part ≡ attribute n s A
unfolding ahead attribute
part_is n s ε = refl
part_is n s (atom a m k) = refl
part_is n s (join o A B) = rw (part_is n s A, part_is n s B)
part_is n s (nonempty A) = rw (part_is n s A)

-- of a join's set
module _ (o : Operator) (x y : Ahead) where
  abbrev first : Bool
  first = first_open o (ltb 0 y.part.behind) y.part.alive

  abbrev second : Bool
  second = second_open o (leb x.part.behind y.part.first) (ltb 0 x.part.behind) x.part.done x.part.alive

  pair-has : (k : ℕ) → in_set (pair_ahead o x y).next k ≡ ((first && in_set x.next k) || (second && in_set y.next k))
  pair-has k =
      in_either (cond first x.next 0) (cond second y.next 0) k ∙ ap₂ ◌||◌ (in-only-if first x.next k) (in-only-if second y.next k)

nonempty-alive : (A : Ty) (w : Word) → alive (nonempty A) w ≡ alive A w
unfolding alive
nonempty-alive A w = refl

-- the set: of the type's names, those with which the row can be made longer
ahead-has : (A : Ty) → ConflictFree A → ((x : ℕ) → symbols A x ≡ true → 1 ≤ x) → (w : Word) → CountsWithin A w → (x : ℕ) → 1 ≤ x
    → in_set (ahead (length w) (seen w) A).next x ≡ (symbols A x && alive A (w ++ (x ∷ [])))
unfolding ahead
ahead-has ε g p w q x h = in-none x
ahead-has (atom a m n) g p w q x h =
    unfold seen only in
    in-only-if (under (suc (count a w)) n) (single a) x ∙ rw (in-single a x (p a (only_self a)) h) (sym (atom-comes w x a m n))
ahead-has (join o A B) g p w q x h =
    let i = ahead-has A g.1 (λ y e. p y (either_left (symbols A) (symbols B) y e)) w q.0 x h in
    let j = ahead-has B g.2 (λ y e. p y (either-right (symbols A) (symbols B) y e)) w q.1 x h in
    let pa = part_is (length w) (seen w) A ∙ attribute-is A g.1 w q.0 in
    let pb = part_is (length w) (seen w) B ∙ attribute-is B g.2 w q.1 in
    pair-has o (ahead (length w) (seen w) A) (ahead (length w) (seen w) B) x
    ∙ rw (pa, pb, i, j, join-comes w x A B g.0 g.1 o)
    (unfold attribute_of in
    rw (ordered-span (symbols A) (symbols B) g.0 w, touched-behind (symbols A) w, touched-behind (symbols B) w))
ahead-has (nonempty A) g p w q x h = rw (nonempty-alive A (w ++ (x ∷ []))) (ahead-has A g.1 p w q x h)

-- `ahead n s` carries `type_by` into `ahead_by n s`
module _ (n : ℕ) (s : ℕ → Seen) where
  none_or : (b : Bool) (t : ℕ) → bit_or (cond b 0 0) t ≡ t
  none_or true t = or_zero_l t
  none_or false t = or_zero_l t

  ahead-atom : (a lo : ℕ) (hi : Upper) → ahead n s (type_by.on_atom a lo hi) ≡ (ahead_by n s).on_atom a lo hi
  unfolding ahead
  ahead-atom a zero hi = rw none_or
  ahead-atom a (suc lo) hi = refl

  ahead-group : (a : ℕ) (sign : Sign) (l : List Ty) → ahead n s (type_by.on_group a sign l) ≡ (ahead_by n s).on_group a sign (map (ahead n s) l)
  unfolding ahead
  ahead-group a sign l = carried (ahead n s) pair_ahead (λ o B C. refl) (empty_ahead n) refl (operator sign) l

  ahead-mark : (m : Mark) (A : Ty) → ahead n s (type_by.on_mark m A) ≡ (ahead_by n s).on_mark m (ahead n s A)
  unfolding ahead
  ahead-mark Plain A = refl
  ahead-mark Optional A = rw none_or
  ahead-mark Nonempty A = refl

-- of a rule that is a model's
module _ (t : Model) (f : Fits t) (w : Word) where
  root-ahead : root_ahead (rule_of t) (length w) (seen w) ≡ ahead (length w) (seen w) (type_of t)
  root-ahead =
      let n = length w in
      let s = seen w in
      let e = eval-map type_by (ahead_by n s) (ahead n s) (ahead-atom n s) (ahead-group n s) (ahead-mark n s) (used (rule_of t)) 1 in
      ap (λ l. get_or l 0 (empty_ahead n)) (sym e ∙ ap (map (ahead n s)) (rule-eval type_by t 1))

  set-model : over? (symbols (type_of t)) w ≡ true → CountsWithin (type_of t) w → (x : ℕ) → 1 ≤ x
      → in_set (root_ahead (rule_of t) (length w) (seen w)).next x ≡ may_come (type_of t) w x
  set-model h q x p =
      let g = type-conflict-free t f in
      rw (root-ahead, ahead-has (type_of t) g (λ y e. ((type-symbols t f y).0 e).0) w q x p, may-come-is w x (type_of t) g, h)

pub next-seen : (r : Rule) → readable r ≡ true → (w : Word) → over? (symbols (rule_type r)) w ≡ true → CountsWithin (rule_type r) w → (s : ℕ → Seen)
    → ((k : ℕ) → k ≤ names r → s k ≡ seen w k) → keep (in_set (root_ahead r (length w) s).next) (numbers_to (names r)) ≡ next_names (rule_type r) (names r) w
unfolding next_names
next-seen r e w h q s g =
    let v = readable-formed r e in
    let t = v.model in
    let n = length w in
    let a = eval-same (ahead_by n s) (ahead_by n (seen w)) (λ k q l. refl) (λ m x. refl) (used r) 1 (λ j b c lo hi. rw (g j (omega arith))) in
    rw a
    (kept-agreeing (in_set (root_ahead r n (seen w)).next) (may_come (rule_type r) w) (names r)
    (λ x p _. rw (v.rule_is, rule-type t)
    (set-model t v.formed w (rw (v.rule_is, rule-type t) at h) (rw (v.rule_is, rule-type t) at q) x p)))
