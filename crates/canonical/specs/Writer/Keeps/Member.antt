-- One member more of a group keeps what is known.
use mathlib.Core.{Path.◌≡◌, Path.refl, Path.sym, Path.ap, Path.◌∙◌, Path.subst, Logic.◌⊎◌, Logic.inl, Logic.inr, Logic.⊎_elim}
use Rattle.std.specs.Prelude.{Bool, true, false, cond, ◌||◌}
use Rattle.std.proofs.Math.Bool.{or-false, and-true}
use Rattle.std.proofs.lemmas.Bool.{false≢true}
use mathlib.Core.{List.List, List.[], List.◌∷◌, List.◌++◌, List.map, List.map-append, List.append-nil}
use Prim.Native.{Nat.ℕ, Nat.suc, Nat.◌+◌, Nat.◌-◌, Nat.◌≤◌, Nat.◌<◌}
use Rattle.std.proofs.Common.{arith, eq-eqb, ne_eqb}
use lib.{Dec.eqb, ListN.length}
use Rattle.fields.specs.{Bytes.Text, Tests.by-test}
use Rattle.model.specs.{declared.rule.Sign.Sign, Fault.name_from}
use Rattle.model.specs.Tree.{leaf, group, marked, Members, none, ◌▹◌, size, nodes, members_weight, members_leaves}
use Rattle.model.specs.Flatten.{◌⧺◌, is_nil, is_choice, merges, members_of, gathered}
use Rattle.model.specs.Flatten.Append.{append-none, append-size, append-weight}
use Rattle.model.specs.Flatten.Leaves.{append-leaves, merged-leaves}
use Rattle.model.specs.Flatten.Merges.{merged}
use Rattle.model.specs.Syntax.{Spelling, Syntax}
use Rattle.canonical.specs.{declared.tidy.Tidied.Tidied, declared.tidy.Gathered.Gathered, Order.not_after}
use Rattle.canonical.specs.Order.Smallest.{smallest-append}
use Rattle.canonical.specs.Tidy.{Append.some-append, Append.all_append}
use Rattle.canonical.specs.Tidy.{tree_nullable, some_nullable, all_nullable, group_nullable}
use Rattle.canonical.specs.Writer.Tidied.{smaller_by, both_by, holds_empty, noted_by, added_by, joins_by}
use Rattle.canonical.specs.Writer.Keeps.{LeastAt, NamedAt, KeepsTree, KeepsMembers}
use Rattle.canonical.specs.Writer.Keeps.Laws.{named_some, nil-sign}

-- the smaller of two names is that of both lists
name-if : (x : Text) (b : Bool) (p q : ℕ) → name_from x (cond b p q) ≡ cond b (name_from x p) (name_from x q)
name-if x true p q = refl
name-if x false p q = refl

least-append : (x : Text) (k l : List Text) (p q : ℕ) → LeastAt x p k → LeastAt x q l → LeastAt x (smaller_by x p q) (k ++ l)
least-append x [] l p q h i = absurd h
least-append x (n ∷ k) [] p q h i = absurd i
least-append x (n ∷ k) (m ∷ l) p q h i =
    name-if x (not_after (name_from x p) (name_from x q)) p q ∙ rw (h, i) (sym (smallest-append n k m l))

some-group : (s : Sign) (ts : Members Spelling) → 0 < size ts → group_nullable ts s ≡ cond (is_choice s) (some_nullable ts) (all_nullable ts)
some-group s none h = absurd (omega arith)
some-group s (t ▹ ts) h = refl

nullable-append : (s : Sign) (ts us : Members Spelling) → 0 < size ts → 0 < size us
    → group_nullable (ts ⧺ us) s ≡ both_by s (group_nullable ts s) (group_nullable us s)
nullable-append s ts us h k =
    rw (some-group s ts h, some-group s us k, some-group s (ts ⧺ us) (omega (arith, append-size ts us)), some-append ts us, all_append ts us)
    (by-test (is_choice s) (λ e. rw e) (λ e. rw e))

-- the members ws behind us, where n, k, b, p are kept of ws
module _ {x : Text} (s : Sign) {us : Members Spelling} {v : Bool} {g : Gathered} (h : KeepsMembers x s us v g) (ws : Members Spelling) (n k p : ℕ) (b : Bool)
    (last : Tidied) (top : ℕ) where
  abbrev more : Gathered
  more =
      record {
        last = last;
        given = g.given;
        members = g.members + n;
        nullable = cond (eqb g.members 0) b (both_by s g.nullable b);
        size = g.size + k;
        least = cond (eqb g.members 0) p (smaller_by x g.least p);
        top = top;
      }

  module _ (some : 0 < size ws) where
    -- the first members, or more behind others
    first : (us ≡ none) → eqb g.members 0 ≡ true
    first e = eq-eqb g.members 0 (h.members_are ∙ ap size e)

    later : 0 < size us → eqb g.members 0 ≡ false
    later i = ne_eqb g.members 0 (λ e. omega (arith, h.members_are))

    none_or : (ts : Members Spelling) → (ts ≡ none) ⊎ (0 < size ts)
    none_or none = inl refl
    none_or (t ▹ ts) = inr (omega arith)

    nullable-both : b ≡ group_nullable ws s → more.nullable ≡ group_nullable (us ⧺ ws) s
    nullable-both e =
        ⊎_elim
        (λ i. rw (first i, i) e)
        (λ i. rw (later i, e, h.members_nullable i) (sym (nullable-append s us ws i some)))
        (none_or us)

    least-both : LeastAt x p (map (λ a. a.name) (members_leaves ws)) → LeastAt x more.least (map (λ a. a.name) (members_leaves (us ⧺ ws)))
    least-both e =
        ⊎_elim
        (λ i. rw (first i, i) e)
        (λ i. rw (later i, append-leaves us ws, map-append)
        (least-append x (map (λ a. a.name) (members_leaves us)) (map (λ a. a.name) (members_leaves ws)) g.least p (h.all_least i) e))
        (none_or us)

    smaller-inside : (b : Bool) (q : ℕ) → q ≤ length x → p ≤ length x → cond b q p ≤ length x
    smaller-inside true q i j = i
    smaller-inside false q i j = j

    least_inside : p ≤ length x → more.least ≤ length x
    least_inside e =
        first-inside (eqb g.members 0) (smaller_by x g.least p)
        (smaller-inside (not_after (name_from x g.least) (name_from x p)) g.least h.within e) e
      where
        first-inside : (c : Bool) (q : ℕ) → q ≤ length x → p ≤ length x → cond c p q ≤ length x
        first-inside true q i j = j
        first-inside false q i j = i

    keeps-more : n ≡ size ws → k ≡ members_weight 1 1 ws → b ≡ group_nullable ws s → p ≤ length x
        → LeastAt x p (map (λ a. a.name) (members_leaves ws)) → ((u : Syntax) → us ⧺ ws ≡ u ▹ none → KeepsTree x u last) → KeepsMembers x s (us ⧺ ws) v more
    keeps-more n-is k-is b-is inside least_is last_is =
        record {
          given_is = h.given_is;
          members_are = omega (arith, h.members_are, n-is, append-size us ws);
          nodes_are = omega (arith, h.nodes_are, k-is, append-weight 1 1 us ws);
          within = least_inside inside;
          members_nullable = λ i. nullable-both b-is;
          all_least = λ i. least-both least_is;
          last_is = last_is;
        }

-- A member that is kept as t.
module _ {x : Text} (s : Sign) {t : Tidied} where
  pub joins-merges : (u : Syntax) → KeepsTree x u t → joins_by s t ≡ merges s u
  joins-merges (marked m (leaf a)) k = rw k.shape_is
  joins-merges (marked m (group r ts)) k = rw (k.shape_is, k.mark_is)

pub holds-empty : {x : Text} (u : Syntax) {t : Tidied} → KeepsTree x u t → holds_empty t ≡ tree_nullable u
holds-empty (marked m n) k = rw (k.mark_is, k.nullable_is)

merged-two : {x : Text} (s : Sign) (u : Syntax) {p : ℕ} → NamedAt x u p → merges s u ≡ true → 2 ≤ size (members_of u)
merged-two s (marked m (leaf a)) i e = absurd (false≢true e)
merged-two s (marked m (group r ts)) i e = i.proper.0

pub merged-nodes : (s : Sign) (u : Syntax) → merges s u ≡ true → nodes u ≡ suc (members_weight 1 1 (members_of u))
merged-nodes s (marked m (leaf a)) e = absurd (false≢true e)
merged-nodes s (marked m (group r ts)) e = omega arith

one-nullable : (s : Sign) (w : Syntax) → group_nullable (w ▹ none) s ≡ tree_nullable w
one-nullable s w = by-test (is_choice s) (λ e. rw (e, or-false)) (λ e. rw (e, and-true))

abbrev first_of : Members Spelling → Syntax → Syntax
first_of none u = u
first_of (t ▹ ts) u = t

module _ {x : Text} (s : Sign) {us : Members Spelling} {v : Bool} {g : Gathered} (h : KeepsMembers x s us v g) where
  -- whether it held the empty row is noted
  pub keeps-noted : {t : Tidied} (u : Syntax) → KeepsTree x u t → KeepsMembers x s us (v || tree_nullable u) (noted_by t g)
  keeps-noted u k =
      record {
        given_is = rw (h.given_is, holds-empty u k);
        members_are = h.members_are;
        nodes_are = h.nodes_are;
        within = h.within;
        members_nullable = h.members_nullable;
        all_least = h.all_least;
        last_is = h.last_is;
      }

  module _ (t : Tidied) where
    abbrev Added : Syntax → Type 0
    Added u = KeepsMembers x s (us ⧺ gathered s (u ∷ [])) v (added_by x g s t)

    dropped : (u : Syntax) → KeepsTree x u t → is_nil u ≡ true → Added u
    dropped u k e = rw (nil-sign u k, e, append-none us) h

    only_one : (w u : Syntax) → us ⧺ (w ▹ none) ≡ u ▹ none → w ≡ u
    only_one w u e = go us e
      where
        go : (ts : Members Spelling) → ts ⧺ (w ▹ none) ≡ u ▹ none → w ≡ u
        go none e = ap (λ (ts : Members Spelling). first_of ts w) e
        go (t ▹ ts) e = absurd (omega (arith, ap size e, append-size ts (w ▹ none)))

    module _ (u : Syntax) (k : KeepsTree x u t) (p : NamedAt x u t.head.least) where
      -- a member that stays
      stays : merges s u ≡ false → Added u
      stays e =
          rw (nil-sign u k, named_some u p, e, joins-merges s u k, e)
          (keeps-more s h (u ▹ none) 1 t.head.size t.head.least (holds_empty t) t (t.top - 1) (omega arith)
          refl (omega (arith, k.size_is)) (holds-empty u k ∙ sym (one-nullable s u)) k.least_inside (rw append-nil p.least)
          (λ w i. subst (λ (y : Syntax). KeepsTree x y t) (only_one u w i) k))

      -- a group that joins
      merges-in : merges s u ≡ true → Added u
      merges-in e =
          let c = merged-two s u p e in
          rw (nil-sign u k, named_some u p, e, joins-merges s u k, e, append-none (members_of u))
          (keeps-more s h (members_of u) t.head.members (t.head.size - 1) t.head.least (holds_empty t) t t.top (omega (arith, c))
          k.members_is (omega (arith, k.size_is, merged-nodes s u e)) (holds-empty u k ∙ ap tree_nullable (merged s u e)) k.least_inside
          (rw (merged-leaves s u e) p.least)
          (λ y i. absurd (omega (arith, c, ap size i, append-size us (members_of u)))))

    pub keeps-member : (u : Syntax) → KeepsTree x u t → Added u
    keeps-member u k =
        ⊎_elim (λ e. dropped u k (ap is_nil e)) (λ p. by-test (merges s u) (merges-in u k p) (stays u k p)) k.kind_is
