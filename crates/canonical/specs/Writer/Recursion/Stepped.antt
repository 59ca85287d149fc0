-- One member more on the stack.
use mathlib.Core.{Path.◌≡◌, Path.refl, Path.sym, Path.ap, Path.◌∙◌, Path.subst, Logic.⊎_elim}
use Rattle.std.specs.Prelude.{true, false, ◌||◌, length, drop, set}
use Rattle.std.proofs.Math.Bool.{or-false}
use mathlib.Core.{List.List, List.[], List.◌∷◌, List.map, List.map-append}
use Prim.Native.{Nat.ℕ, Nat.suc, Nat.◌+◌, Nat.◌-◌, Nat.◌≤◌, Nat.◌<◌}
use Rattle.std.proofs.Common.{arith, length-set, drop-cons, get_or-set_same, drop-set-lt}
use Rattle.fields.specs.{Bytes.Text, Tests.by-test}
use Rattle.model.specs.declared.rule.Sign.{Sign}
use Rattle.model.specs.Tree.{Members, none, ◌▹◌, nodes, members_weight}
use Rattle.model.specs.Flatten.{◌⧺◌, nil, is_nil, merges, members_of, gathered}
use Rattle.model.specs.Syntax.{Spelling, Syntax}
use Rattle.canonical.specs.{declared.head.Head.Head, declared.tidy.Tidied.Tidied, declared.tidy.Gathered.Gathered}
use Rattle.canonical.specs.Tidy.{tree_nullable, stripped, any_nullable, tidy, tidy_all}
use Rattle.canonical.specs.Writer.Tidied.{added_by, stacked_by}
use Rattle.canonical.specs.Writer.Keeps.{NamedAt, KeepsTree, Laws.named_some, Laws.nil-sign, Member.joins-merges, Member.merged-nodes}
use Rattle.model.specs.Flatten.Append.{append-none, append-weight, gathered-append}
use Rattle.canonical.specs.Writer.Stack.{stacked, trees_on, HeadsFit}
use Rattle.canonical.specs.{Writer.Stack.Laws.stacked-append, Tidy.Append.tidy-append, Tidy.Append.any_append}
use Rattle.canonical.specs.Writer.Stack.Push.{push}
use Rattle.canonical.specs.Writer.Recursion.{gathered_of}

-- Members one behind the other.
pub gathered-more : (s : Sign) (ts : Members Spelling) (u : Syntax)
    → gathered_of s (ts ⧺ (u ▹ none)) ≡ gathered_of s ts ⧺ gathered s (stripped s (tidy u) ∷ [])
gathered-more s ts u = rw (tidy-append ts (u ▹ none), map-append) (gathered-append s (map (stripped s) (tidy_all ts)) (stripped s (tidy u) ∷ []))

pub given-more : (ts : Members Spelling) (u : Syntax) → any_nullable (tidy_all (ts ⧺ (u ▹ none))) ≡ (any_nullable (tidy_all ts) || tree_nullable (tidy u))
given-more ts u = rw (tidy-append ts (u ▹ none), any_append (tidy_all ts) (tidy u ∷ []), or-false)

-- a head on top of a stack that grows down
pub on-top : (stack : List Head) (top : ℕ) (w : Head) → 0 < top → top ≤ length stack → drop (top - 1) (set stack (top - 1) w) ≡ w ∷ drop top stack
on-top stack top w h k =
    let e : suc (top - 1) ≡ top = omega arith in
    drop-cons (set stack (top - 1) w) (top - 1) w (rw length-set (omega arith))
    ∙ rw (get_or-set_same stack (top - 1) w w (omega arith), drop-set-lt (suc (top - 1)) stack (top - 1) w (omega arith), e)

-- The stack, where the trees behind the members us are l.
pub record Stepped (x : Text) (us : Members Spelling) (l : List Syntax) (old new : List Head) (top end : ℕ) : Type 0 where
  pub entries : length new ≡ length old
  pub top_is : end + members_weight 1 1 us ≡ top
  pub trees_are : trees_on x (drop end new) ≡ stacked us l
  pub heads : HeadsFit x (drop end new)

-- the members of u stand on those of the group, which are us
pub record Beside (x : Text) (us : Members Spelling) (l : List Syntax) (stack : List Head) (u : Syntax) (top end : ℕ) : Type 0 where
  pub below : end + nodes u ≡ top + 1
  pub trees : trees_on x (drop end stack) ≡ stacked (members_of u) (stacked us l)
  pub known : HeadsFit x (drop end stack)

module _ (x : Text) (s : Sign) (us : Members Spelling) (g : Gathered) (t : Tidied) (l : List Syntax) (mid new : List Head) where
  abbrev pub AfterStep : Syntax → Type 0
  AfterStep u = Stepped x (us ⧺ gathered s (u ∷ [])) l mid new (g.top + members_weight 1 1 us) (added_by x g s t).top

  module _ (u : Syntax) (k : KeepsTree x u t) (h : Beside x us l mid u g.top t.top) (st : new ≡ stacked_by mid s t) where
    nil-stepped : u ≡ nil → AfterStep u
    nil-stepped e =
        let i : is_nil u ≡ true = ap is_nil e in
        let n : new ≡ mid = rw (nil-sign u k, i) at st in
        let q : t.top ≡ g.top = omega (arith, h.below, ap nodes e) in
        rw (nil-sign u k, i, append-none us)
        record {
          entries = ap length n;
          top_is = refl;
          trees_are = rw (n, ← q) (h.trees ∙ ap (λ (ts : Members Spelling). stacked ts (stacked us l)) (ap members_of e));
          heads = rw (n, ← q) h.known;
        }

    joined-stepped : NamedAt x u t.head.least → merges s u ≡ true → AfterStep u
    joined-stepped p e =
        let i = named_some u p in
        let n : new ≡ mid = rw (nil-sign u k, i, joins-merges s u k, e) at st in
        rw (nil-sign u k, i, joins-merges s u k, e, append-none (members_of u))
        record {
          entries = ap length n;
          top_is = omega (arith, h.below, merged-nodes s u e, append-weight 1 1 us (members_of u));
          trees_are = rw n (h.trees ∙ sym (stacked-append us (members_of u) l));
          heads = rw n h.known;
        }

    stays-stepped : NamedAt x u t.head.least → merges s u ≡ false → 0 < t.top → t.top ≤ length mid → AfterStep u
    stays-stepped p e b r =
        let i = named_some u p in
        let n : new ≡ set mid (t.top - 1) t.head = rw (nil-sign u k, i, joins-merges s u k, e) at st in
        let d = ap (drop (t.top - 1)) n ∙ on-top mid t.top t.head b r in
        let q = push (drop t.top mid) (stacked us l) u k p h.trees h.known in
        rw (nil-sign u k, i, joins-merges s u k, e)
        record {
          entries = ap length n ∙ length-set mid (t.top - 1) t.head;
          top_is = omega (arith, h.below, append-weight 1 1 us (u ▹ none));
          trees_are = ap (trees_on x) d ∙ q.0 ∙ sym (stacked-append us (u ▹ none) l);
          heads = subst (HeadsFit x) (sym d) q.1;
        }

    pub stepped : 0 < t.top → t.top ≤ length mid → AfterStep u
    stepped b r =
        ⊎_elim nil-stepped (λ p. by-test (merges s u) (joined-stepped p) (λ e. stays-stepped p e b r)) k.kind_is
