-- The steps keep what is known: of an atom, of a member more, of a group that is closed, of a mark.
use mathlib.Core.{Path.◌≡◌, Path.refl, Path.sym, Path.ap, Path.◌∙◌, Logic.inl, Logic.inr, Logic.⊎_elim}
use Rattle.std.specs.Prelude.{Bool, false, ◌||◌}
use Rattle.std.proofs.Common.{true≢false, arith, ne_eqb}
use Prim.Native.{Nat.ℕ, Nat.◌+◌, Nat.◌≤◌, Nat.◌<◌}
use lib.{Dec.eqb}
use Rattle.fields.specs.{Bytes.Text, Tests.by-test, Tests.neither}
use Rattle.model.specs.{declared.rule.Sign.Sign, declared.rule.Mark.Mark}
use Rattle.model.specs.declared.rule.Sign.TheVariants.{None, Sequence, Choice, Interleaving}
use Rattle.model.specs.declared.rule.Mark.TheVariants.{Nonempty}
use Rattle.model.specs.Tree.{Node, leaf, group, marked, Members, none, ◌▹◌, size, node_under, is_plain}
use Rattle.model.specs.Flatten.{nil, is_nil, is_choice, same_sign, members_of, grouped, dropped_mark}
use Rattle.model.specs.Syntax.{Spelling, Syntax}
use Rattle.canonical.specs.{declared.tidy.Tidied.Tidied, declared.tidy.Gathered.Gathered}
use Rattle.canonical.specs.Tidy.{fitting, marking, stripped}
use Rattle.canonical.specs.Writer.Tidied.{marking_by, stripped_by, placed_at, remarked_by, nothing_by, no_members, grouped_by, group_closed_by}
use Rattle.canonical.specs.Writer.Head.{is_nothing}
use Rattle.canonical.specs.Writer.Keeps.{sign_byte, shape_of, NamedAt, KeepsTree, KeepsMembers}

some-sign : (s : Sign) → 0 < sign_byte s → same_sign None s ≡ false
some-sign None h = absurd (omega arith)
some-sign Sequence h = refl
some-sign Choice h = refl
some-sign Interleaving h = refl

-- where a tree stands does not matter
pub keeps_placed : {x : Text} {u : Syntax} {r : Tidied} (top next : ℕ) → KeepsTree x u r → KeepsTree x u (placed_at top next r)
keeps_placed top next k =
    record {
      shape_is = k.shape_is;
      mark_is = k.mark_is;
      nullable_is = k.nullable_is;
      members_is = k.members_is;
      size_is = k.size_is;
      least_inside = k.least_inside;
      kind_is = k.kind_is;
    }

pub keeps-nil : (x : Text) (top next : ℕ) → KeepsTree x nil (nothing_by top next)
keeps-nil x top next =
    record {
      shape_is = refl;
      mark_is = refl;
      nullable_is = refl;
      members_is = refl;
      size_is = refl;
      least_inside = omega arith;
      kind_is = inl refl;
    }

-- `()` is nothing
module _ {x : Text} {p : ℕ} where
  pub named_some : (u : Syntax) → NamedAt x u p → is_nil u ≡ false
  named_some (marked m (leaf a)) h = refl
  named_some (marked m (group s none)) h = absurd (omega (arith, h.proper.0))
  named_some (marked m (group s (t ▹ ts))) h = refl

  named-signed : (u : Syntax) → NamedAt x u p → is_nothing (shape_of (node_under u)) ≡ false
  named-signed (marked m (leaf a)) h = refl
  named-signed (marked m (group s ts)) h = some-sign s h.proper.1

pub nil-sign : {x : Text} (u : Syntax) {r : Tidied} → KeepsTree x u r → is_nothing r.head.shape ≡ is_nil u
nil-sign u k = rw k.shape_is (⊎_elim (λ e. rw e) (λ p. named-signed u p ∙ sym (named_some u p)) k.kind_is)

-- another mark
pub members-under : (m k : Mark) (n : Node Spelling) → members_of (marked m n) ≡ members_of (marked k n)
members-under m k (leaf a) = refl
members-under m k (group s ts) = refl

keeps-remarked : {x : Text} {r : Tidied} (m k : Mark) (n : Node Spelling) → is_nil (marked k n) ≡ false → KeepsTree x (marked k n) r
    → KeepsTree x (marked m n) (remarked_by m r)
keeps-remarked m k n i h =
    record {
      shape_is = h.shape_is;
      mark_is = refl;
      nullable_is = h.nullable_is;
      members_is = h.members_is ∙ ap size (members-under k m n);
      size_is = h.size_is;
      least_inside = h.least_inside;
      kind_is = ⊎_elim (λ e. absurd (true≢false (sym (ap is_nil e) ∙ i))) (λ p. inr (record { proper = p.proper; least = p.least })) h.kind_is;
    }

pub keeps-marking : {x : Text} (m : Mark) (u : Syntax) {r : Tidied} → KeepsTree x u r → KeepsTree x (marking m u) (marking_by m r)
keeps-marking m (marked k n) {r} h =
    rw (nil-sign (marked k n) h) (by-test (is_plain m || is_nil (marked k n))
    (λ e. rw e h)
    (λ e. rw (e, ← h.nullable_is)
    (keeps-remarked (fitting m r.head.nullable) k n (neither (is_plain m) (is_nil (marked k n)) e).1 h)))

pub keeps-stripped : {x : Text} (s : Sign) (u : Syntax) {r : Tidied} → KeepsTree x u r → KeepsTree x (stripped s u) (stripped_by s r)
keeps-stripped s u h = by-test (is_choice s) (λ c. rw c (keeps-marking Nonempty u h)) (λ c. rw c h)

-- a group of the members
module _ {x : Text} (s : Sign) {v : Bool} {g : Gathered} where
  pub keeps-grouped : (us : Members Spelling) (next : ℕ) → KeepsMembers x s us v g → (2 ≤ size us → 0 < sign_byte s)
      → KeepsTree x (grouped s us) (grouped_by g s next)
  keeps-grouped none next k f = rw k.members_are (keeps-nil x g.top next)
  keeps-grouped (u ▹ none) next k f = rw k.members_are (keeps_placed (g.top + 1) next (k.last_is u refl))
  keeps-grouped (u ▹ w ▹ us) next k f =
      let a : eqb g.members 0 ≡ false = ne_eqb g.members 0 (λ e. omega (arith, k.members_are)) in
      let b : eqb g.members 1 ≡ false = ne_eqb g.members 1 (λ e. omega (arith, k.members_are)) in
      rw (a, b)
      record {
        shape_is = refl;
        mark_is = refl;
        nullable_is = k.members_nullable (omega arith);
        members_is = k.members_are;
        size_is = omega (arith, k.nodes_are);
        least_inside = k.within;
        kind_is = inr (record { proper = (omega arith, f (omega arith)); least = k.all_least (omega arith) });
      }

  pub keeps-closed : (us : Members Spelling) (next : ℕ) → KeepsMembers x s us v g → (2 ≤ size us → 0 < sign_byte s)
      → KeepsTree x (marking (dropped_mark s v) (grouped s us)) (group_closed_by g s next)
  keeps-closed us next k f = rw k.given_is (keeps-marking (dropped_mark s v) (grouped s us) (keeps-grouped us next k f))

-- no members yet
pub keeps-none : (x : Text) (s : Sign) (top : ℕ) → KeepsMembers x s none false (no_members top)
keeps-none x s top =
    record {
      given_is = refl;
      members_are = refl;
      nodes_are = refl;
      within = omega arith;
      members_nullable = λ h. absurd (omega (arith, h));
      all_least = λ h. absurd (omega (arith, h));
      last_is = λ u e. absurd (omega (arith, ap size e));
    }
