-- The form that tidying gives, and that a tree of this form is left as it is.
use mathlib.Core.{Path.◌≡◌, Path.refl, Path.sym, Path.ap, Path.ap₂, Path.◌∙◌, Path.subst, Logic.◌⊎◌, Logic.inl, Logic.inr}
use Rattle.std.specs.Prelude.{Bool, true, false, cond, ◌&&◌, ◌||◌, List, [], ◌∷◌, map, eqb, leb}
use Rattle.std.proofs.Math.Bool.{or-true}
use Rattle.std.proofs.Common.{arith, eqb-true}
use Rattle.fields.specs.{Bytes.Text, Bytes.value, Tests.by-test}
use Rattle.model.specs.{declared.rule.Sign.Sign, declared.rule.Mark.Mark, Mark.Laws.is-plain}
use Rattle.model.specs.declared.rule.Mark.TheVariants.{Plain, Optional, Nonempty}
use Rattle.model.specs.Tree.{Node, leaf, group, marked, Members, none, ◌▹◌, node_under, is_plain}
use Rattle.model.specs.Syntax.{Count, unwritten, between, onward, Spelling, Syntax}
use Rattle.model.specs.Flatten.{is_choice, nil, is_nil, merges, members_of, with_member, gathered, grouped, dropped_mark, ◌⧺◌}
use Rattle.model.specs.Flatten.{Merges.merged, Append.grouped-several}
use Rattle.canonical.specs.Neat.{strips, NeatNode, Neat, NeatAll}
use Rattle.canonical.specs.Tidy.{from_zero, raised, tidy_count, nullable_under, node_nullable, tree_nullable, some_nullable, fitting, marking, stripped}
use Rattle.canonical.specs.Tidy.{any_nullable, settled_group, tidy_node, tidy, tidy_all, Nullable.marking-nullable}

abbrev pub NeatOrNil : Syntax → Type 0
NeatOrNil t = (t ≡ nil) ⊎ Neat t

abbrev pub AllNeatOrNil : List Syntax → Type 0
AllNeatOrNil [] = Unit {0}
AllNeatOrNil (t ∷ l) = NeatOrNil t × AllNeatOrNil l

pub neat-not-nil : (t : Syntax) → Neat t → is_nil t ≡ false
neat-not-nil (marked m (leaf a)) h = refl
neat-not-nil (marked m (group s none)) h = absurd (omega (arith, h.1.0))
neat-not-nil (marked m (group s (t ▹ ts))) h = refl

-- counts
raised-value : (m : Text) → (eqb (value (raised m)) 0 ≡ false) × (leb (value (raised m)) 1 ≡ leb (value m) 1)
raised-value m = by-test (eqb (value m) 0) (λ e. rw e (refl, rw (eqb-true (value m) 0 e) refl)) (λ e. rw e (e, refl))

raised-twice : (m : Text) → raised (raised m) ≡ raised m
raised-twice m = rw (raised-value m).0 refl

pub count-not-zero : (c : Count) → from_zero (tidy_count c) ≡ false
count-not-zero unwritten = refl
count-not-zero (between m n) =
    by-test (leb (value m) 1 && eqb (value n) 1) (λ e. rw e refl) (λ e. rw e (raised-value m).0)
count-not-zero (onward m) = (raised-value m).0

pub count-twice : (c : Count) → tidy_count (tidy_count c) ≡ tidy_count c
count-twice unwritten = refl
count-twice (between m n) =
    by-test (leb (value m) 1 && eqb (value n) 1)
    (λ e. rw e refl)
    (λ e. rw (e, (raised-value m).1, e, raised-twice m) refl)
count-twice (onward m) = ap onward (raised-twice m)

-- marks
fitting-twice : (m : Mark) (b : Bool) → fitting (fitting m b) b ≡ fitting m b
fitting-twice Plain b = refl
fitting-twice Optional b = by-test b (λ e. rw e) (λ e. rw e)
fitting-twice Nonempty b = by-test b (λ e. rw e) (λ e. rw e)

pub marking-neat : (m : Mark) (t : Syntax) → Neat t → Neat (marking m t)
marking-neat m (marked k n) h = by-test (is_plain m || is_nil (marked k n)) (λ e. rw e h) (λ e. rw e (fitting-twice m (node_nullable n), h.1))

-- the mark by whether the empty row is held with it, and without it
fitting-by : (m : Mark) (b : Bool) → fitting m b ≡ cond (nullable_under m b) (cond b Plain Optional) (cond b Nonempty Plain)
fitting-by Plain b = by-test b (λ e. rw e) (λ e. rw e)
fitting-by Optional b = refl
fitting-by Nonempty b = refl

-- so a mark that leaves the empty row held, or not held, changes nothing
pub marking-held : (m : Mark) (t : Syntax) → Neat t → nullable_under m (node_nullable (node_under t)) ≡ tree_nullable t → marking m t ≡ t
marking-held m (marked k n) h e =
    let b = node_nullable n in
    let q : fitting m b ≡ k = fitting-by m b ∙ rw e (sym (fitting-by k b)) ∙ h.0 in
    by-test (is_plain m || is_nil (marked k n)) (λ i. rw i) (λ i. rw (i, q))

-- What tidying makes of members.
append-neat : (ts us : Members Spelling) (s : Sign) → NeatAll ts s → NeatAll us s → NeatAll (ts ⧺ us) s
append-neat none us s h k = k
append-neat (t ▹ ts) us s h k = (h.0, h.1, append-neat ts us s h.2 k)

pub stripped-nil : (s : Sign) → stripped s nil ≡ nil
stripped-nil s = by-test (is_choice s) (λ c. rw c) (λ c. rw c)

pub stripped-neat : (s : Sign) (t : Syntax) → Neat t → Neat (stripped s t)
stripped-neat s t h = by-test (is_choice s) (λ c. rw c (marking-neat Nonempty t h)) (λ c. rw c h)

stripped-strips : (s : Sign) (t : Syntax) → Neat t → strips s (stripped s t) ≡ false
stripped-strips s t h = by-test (is_choice s) (λ c. rw (c, marking-nullable Nonempty t refl, neat-not-nil t h)) (λ c. rw c)

with-neat : (s : Sign) (t : Syntax) (us : Members Spelling) → Neat t → strips s t ≡ false → NeatAll us s → NeatAll (with_member s t us) s
with-neat s t us h q k =
    by-test (merges s t)
    (λ e. rw e (append-neat (members_of t) us s (subst Neat (merged s t e) h).1.1 k))
    (λ e. rw e (h, (e, q), k))

pub gathered-neat : (s : Sign) (l : List Syntax) → AllNeatOrNil l → NeatAll (gathered s (map (stripped s) l)) s
gathered-neat s [] h = tt
gathered-neat s (t ∷ l) (inl e, h) =
    let q : stripped s t ≡ nil = ap (stripped s) e ∙ stripped-nil s in
    rw q (gathered-neat s l h)
gathered-neat s (t ∷ l) (inr n, h) =
    let u = stripped s t in
    let i = stripped-neat s t n in
    rw (neat-not-nil u i) (with-neat s u (gathered s (map (stripped s) l)) i (stripped-strips s t n) (gathered-neat s l h))

marking-tidied : (m : Mark) (t : Syntax) → NeatOrNil t → NeatOrNil (marking m t)
marking-tidied m t (inl e) = inl (rw (e, or-true))
marking-tidied m t (inr h) = inr (marking-neat m t h)

pub grouped-tidied : (s : Sign) (ts : Members Spelling) → NeatAll ts s → NeatOrNil (grouped s ts)
grouped-tidied s none h = inl refl
grouped-tidied s (t ▹ none) h = inr h.0
grouped-tidied s (t ▹ u ▹ ts) h = inr (refl, (omega arith, h))

pub settled-tidied : (s : Sign) (l : List Syntax) → AllNeatOrNil l → NeatOrNil (settled_group s l)
settled-tidied s l h =
    let ts = gathered s (map (stripped s) l) in
    marking-tidied (dropped_mark s (any_nullable l)) (grouped s ts) (grouped-tidied s ts (gathered-neat s l h))

mutual
  node-tidied : (n : Node Spelling) → NeatOrNil (tidy_node n)
  node-tidied (leaf a) =
      let c = a.count in
      inr (rw (count-not-zero c) (by-test (from_zero c) (λ e. rw e) (λ e. rw e)), (count-not-zero c, count-twice c))
  node-tidied (group s ts) = settled-tidied s (tidy_all ts) (all-tidied ts)

  pub tidy-neat : (t : Syntax) → (tidy t ≡ nil) ⊎ Neat (tidy t)
  tidy-neat (marked m n) = marking-tidied m (tidy_node n) (node-tidied n)

  pub all-tidied : (ts : Members Spelling) → AllNeatOrNil (tidy_all ts)
  all-tidied none = tt
  all-tidied (t ▹ ts) = (tidy-neat t, all-tidied ts)

-- A neat tree is left as it is.
abbrev pub list_of : Members Spelling → List Syntax
list_of none = []
list_of (t ▹ ts) = t ∷ list_of ts

pub stripped-same : (s : Sign) (t : Syntax) → Neat t → strips s t ≡ false → stripped s t ≡ t
stripped-same s t h e = by-test (is_choice s) (λ c. rw c (marking-held Nonempty t h (sym (rw c at e)))) (λ c. rw c)

gathered-same : (s : Sign) (ts : Members Spelling) → NeatAll ts s → gathered s (map (stripped s) (list_of ts)) ≡ ts
gathered-same s none h = refl
gathered-same s (t ▹ ts) h =
    rw (stripped-same s t h.0 h.1.1, neat-not-nil t h.0, h.1.0, gathered-same s ts h.2) refl

-- no member of a choice holds the empty row
pub none-nullable : (s : Sign) (ts : Members Spelling) → is_choice s ≡ true → NeatAll ts s → some_nullable ts ≡ false
none-nullable s none c h = refl
none-nullable s (t ▹ ts) c h =
    let e : tree_nullable t ≡ false = rw c at h.1.1 in
    rw e (none-nullable s ts c h.2)

any-members : (ts : Members Spelling) → any_nullable (list_of ts) ≡ some_nullable ts
any-members none = refl
any-members (t ▹ ts) = ap (λ (b : Bool). tree_nullable t || b) (any-members ts)

unmarked : (s : Sign) (ts : Members Spelling) → NeatAll ts s → dropped_mark s (any_nullable (list_of ts)) ≡ Plain
unmarked s ts h = rw (any-members ts) (by-test (is_choice s) (λ c. rw (c, none-nullable s ts c h)) (λ c. rw c))

settled_same : (s : Sign) (ts : Members Spelling) → NeatNode (group s ts) → settled_group s (list_of ts) ≡ marked Plain (group s ts)
settled_same s ts h = rw (unmarked s ts h.1, gathered-same s ts h.1) (grouped-several s ts h.0)

marking-same : (m : Mark) (n : Node Spelling) → Neat (marked m n) → marking m (marked Plain n) ≡ marked m n
marking-same m n h =
    by-test (is_plain m) (λ p. rw (is-plain m p)) (λ p. rw (p, neat-not-nil (marked Plain n) (refl, h.1), h.0))

mutual
  node_same : (n : Node Spelling) → NeatNode n → tidy_node n ≡ marked Plain n
  node_same (leaf a) h = rw (h.0, h.1) refl
  node_same (group s ts) h = ap (settled_group s) (all_same ts s h.1) ∙ settled_same s ts h

  pub neat-same : (t : Syntax) → Neat t → tidy t ≡ t
  neat-same (marked m n) h = ap (marking m) (node_same n h.1) ∙ marking-same m n h

  all_same : (ts : Members Spelling) (s : Sign) → NeatAll ts s → tidy_all ts ≡ list_of ts
  all_same none s h = refl
  all_same (t ▹ ts) s h = ap₂ {C = List Syntax} (λ u l. u ∷ l) (neat-same t h.0) (all_same ts s h.2)
