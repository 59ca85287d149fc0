-- From what the two passes over a row know to the verdict on it.
use mathlib.Core.{Path.◌≡◌, Path.refl, Path.sym, Path.ap, Path.◌∙◌, Bool.true, List.List, List.[], List.◌∷◌, List.map}
use Rattle.std.specs.Prelude.{ℕ, ◌+◌, ◌<◌, ◌≤◌, length, take, slice_index_or}
use Rattle.std.proofs.Common.{arith}
use Rattle.model.specs.{declared.rule.Upper.Upper, declared.rule.Sign.Sign, declared.rule.Kind.Kind, declared.rule.Mark.Mark, declared.rule.Node.Node}
use Rattle.model.specs.{declared.rule.Rule.Rule, declared.verdict.Verdict.Verdict, Word.Word, Types.symbols, Membership.over?, Membership.holds?}
use Rattle.model.specs.{Membership.extends?, Verdict.verdict_of, Verdict.verdict, Model.Eval.eval-map, Model.Eval.after_is, Rule.rule_of, Rule.names}
use Rattle.model.specs.{Rule.rule_type, Rule.used, Rule.Laws.rule-eval, Check.readable}
use Rattle.model.proofs.CheckExact.{readable-formed, rule-type}
use Rattle.model.specs.declared.rule.Kind.TheVariants.{Atom, Group}
use Rattle.model.specs.Model.{Algebra, Model, type_by, type_of, after, eval_step, eval, atoms_in}
use Rattle.model.specs.Model.Types.{Fits, type-conflict-free}
use Rattle.fields.specs.Limits.{max_row}
use Rattle.judge.specs.{declared.tally.Seen.Seen, declared.packed.Sizes.Sizes, Row.upto, Row.Root.root_attribute, Row.Tally.limits_in}
use Rattle.judge.specs.Packed.{node_in, rule_in, seen_in, Sized}
use Rattle.judge.specs.Row.Attribute.{empty_attribute, attribute_by, attribute, attribute-is, attribute-atom, attribute-group, attribute-mark, seen}
use Rattle.judge.specs.Row.Attribute.{attribute_of, CountsWithin}

-- by what is seen of each name in a row of n children, none of them at fault
abbrev pub seen_verdict : Rule → ℕ → (ℕ → Seen) → Verdict
seen_verdict r n s = verdict_of (root_attribute r n s).done (root_attribute r n s).alive

-- The words hold the nodes of a rule that some model text reads into, and behind them the upper counts of its names; the row, of as many children, is not
-- refused.
pub record Judgeable (words : List ℕ) (r : Sizes) (row : Word) : Type 0 where
  pub sized : Sized words r
  pub children_are : r.children ≡ length row
  pub limits : seen_in words ≡ limits_in (map node_in (take r.nodes words))
  pub good : readable (rule_in words r.nodes) ≡ true
  pub short : length row ≤ max_row
  pub named : upto r.names row ≡ true

-- of names, only those that number the atoms are looked at
module _ {A : Type 0} (g h : Algebra A)
    (same-group : (k : ℕ) (s : Sign) (l : List A) → g.on_group k s l ≡ h.on_group k s l)
    (same-mark : (m : Mark) (x : A) → g.on_mark m x ≡ h.on_mark m x) where
  abbrev SameAt : ℕ → Type 0
  SameAt k = (lo : ℕ) (hi : Upper) → g.on_atom k lo hi ≡ h.on_atom k lo hi

  step_same : (κ : Kind) (m : Mark) (k : ℕ) (l : List A) → (k < after κ k → SameAt k) → eval_step g κ m k l ≡ eval_step h κ m k l
  step_same (Atom lo hi) m k l e = rw (e (omega arith) lo hi, same-mark)
  step_same (Group s c) m k l e = rw (same-group, same-mark)

  pub eval-same : (l : List Node) (k : ℕ) → ((j : ℕ) → k ≤ j → j < k + atoms_in l → SameAt j) → eval g l k ≡ eval h l k
  eval-same [] k e = refl
  eval-same (x ∷ l) k e =
      let a = after_is x.kind k in
      rw (eval-same l (after x.kind k) (λ j b c. e j (omega arith) (omega arith)))
      (step_same x.kind x.mark k (eval h l (after x.kind k)) (λ b. e k (omega arith) (omega arith)))

-- of a rule that is a model's
module _ (t : Model) (f : Fits t) (w : Word) (within : CountsWithin (type_of t) w) where
  root-model : root_attribute (rule_of t) (length w) (seen w) ≡ attribute_of (type_of t) w
  root-model =
      let n = length w in
      let s = seen w in
      let e = eval-map type_by (attribute_by n s) (attribute n s) (attribute-atom n s) (attribute-group n s) (attribute-mark n s) (used (rule_of t)) 1 in
      ap (λ l. slice_index_or l 0 (empty_attribute n)) (sym e ∙ ap (map (attribute n s)) (rule-eval type_by t 1))
      ∙ attribute-is (type_of t) (type-conflict-free t f) w within

  verdict-model : over? (symbols (type_of t)) w ≡ true → seen_verdict (rule_of t) (length w) (seen w) ≡ verdict (type_of t) w
  unfolding verdict holds? extends?
  verdict-model h = rw (root-model, h) (unfold attribute_of in refl)

pub verdict-seen : (r : Rule) → readable r ≡ true → (w : Word) → over? (symbols (rule_type r)) w ≡ true → CountsWithin (rule_type r) w → (s : ℕ → Seen)
    → ((k : ℕ) → k ≤ names r → s k ≡ seen w k) → seen_verdict r (length w) s ≡ verdict (rule_type r) w
verdict-seen r e w h i s g =
    let v = readable-formed r e in
    let t = v.model in
    let n = length w in
    let a = eval-same (attribute_by n s) (attribute_by n (seen w)) (λ k q l. refl) (λ m x. refl) (used r) 1 (λ j b c lo hi. rw (g j (omega arith))) in
    let b : seen_verdict r n (seen w) ≡ verdict (rule_type r) w =
    rw (v.rule_is, rule-type t) (verdict-model t v.formed w (rw (v.rule_is, rule-type t) at i) (rw (v.rule_is, rule-type t) at h)) in
    rw a b
