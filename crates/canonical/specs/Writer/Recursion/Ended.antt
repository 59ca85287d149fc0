-- The group at its end.
use mathlib.Core.{Path.◌≡◌, Path.refl, Path.sym, Path.ap, Path.◌∙◌, Path.subst, Logic.⊎_elim, Bool.Bool, Bool.false}
use mathlib.Core.{List.List, List.[], List.◌∷◌, List.◌++◌, List.head-eq_of_cons-eq, List.tail-eq_of_cons-eq}
use Prim.Native.{Nat.ℕ, Nat.suc, Nat.◌+◌, Nat.◌≤◌, Char.code}
use Rattle.std.proofs.Common.{arith, drop-cons, ne_eqb}
use lib.{Dec.eqb, ListN.length, ListN.take, ListN.drop, ListN.get_or, ListN.take-append-drop, ListN.length-append, ListN.length-drop}
use Rattle.fields.specs.{Bytes.Text, Tests.by-test}
use Rattle.model.specs.{declared.rule.Sign.Sign, Mark.mark_at}
use Rattle.model.specs.declared.rule.Sign.TheVariants.{None, Sequence, Choice, Interleaving}
use Rattle.model.specs.Tree.{group, marked, Members, none, ◌▹◌, size, nodes, members_weight, SignFits}
use Rattle.model.specs.Flatten.{◌⧺◌, members_of, grouped, dropped_mark}
use Rattle.model.specs.Syntax.{Spelling, Syntax, text, members_text, mark_text}
use Rattle.model.specs.Flatten.Append.{append-none}
use Rattle.canonical.specs.{declared.tidy.Tidied.Tidied, declared.tidy.Gathered.Gathered, declared.head.Head.Head, Writer.Head.no_head}
use Rattle.canonical.specs.Tidy.{any_nullable, settled_group, tidy, tidy_all}
use Rattle.canonical.specs.Writer.Tidied.{grouped_by, given_mark, group_closed_by, marked_by}
use Rattle.canonical.specs.Writer.Keeps.{KeepsMembers}
use Rattle.canonical.specs.Writer.Head.{is_atom}
use Rattle.canonical.specs.Writer.Keeps.Laws.{keeps-closed}
use Rattle.canonical.specs.Writer.Stack.{turned, stacked, tree_with, trees_on, HeadFits, HeadsFit}
use Rattle.canonical.specs.Writer.Stack.Skip.{trees-more, some-node}
use Rattle.canonical.specs.Writer.Recursion.{OnStack, TidiedAt, Walking, Looping, gathered_of}
use Rattle.canonical.specs.Writer.Recursion.Place.{drop-behind, mark-at}
use Rattle.canonical.specs.Writer.Recursion.Steps.{mark-nodes, mark-places, keeps-mark, next-mark, stack-mark}
use Rattle.canonical.specs.Writer.Recursion.Group.{behind_group, place_inside, walked-over}

-- A tree is taken from the stack, and its members stay.
stacked-turned : (l : List Syntax) (ts : Members Spelling) (f : List Syntax) → stacked (turned l ts) f ≡ stacked ts (l ++ f)
stacked-turned [] ts f = refl
stacked-turned (t ∷ l) ts f = stacked-turned l (t ▹ ts) f

pop-members : (x : Text) (h : Head) (l : List Syntax) → HeadFits x h l → l ≡ stacked (members_of (tree_with x h l)) (drop h.members l)
pop-members x h l f =
    by-test (is_atom h.shape)
    (λ e. rw (e, (f.atom_is e).0))
    (λ e. rw e (sym (stacked-turned (take h.members l) none (drop h.members l) ∙ take-append-drop h.members l)))

pop : (x : Text) (w : Head) (l : List Head) (u : Syntax) (f : List Syntax)
    → trees_on x (w ∷ l) ≡ u ∷ f → HeadsFit x (w ∷ l) → trees_on x l ≡ stacked (members_of u) f
pop x w l u f e h =
    let d = sym (trees-more x w l) ∙ e in
    pop-members x w (trees_on x l) h.0 ∙ rw (head-eq_of_cons-eq d, tail-eq_of_cons-eq d)

-- What a closed group keeps of its place.
next-grouped : (g : Gathered) (sign : Sign) (n : ℕ) → (grouped_by g sign n).next ≡ n
next-grouped g sign n = by-test (eqb g.members 0) (λ e. rw e) (λ e. by-test (eqb g.members 1) (λ i. rw (e, i)) (λ i. rw (e, i)))

next-closed : (g : Gathered) (sign : Sign) (n : ℕ) → (group_closed_by g sign n).next ≡ n
next-closed g sign n = (mark-places (given_mark g sign) (grouped_by g sign n)).1 ∙ next-grouped g sign n

grouped-nodes : (s : Sign) (us : Members Spelling) → nodes (grouped s us) ≤ suc (members_weight 1 1 us)
grouped-nodes s none = omega arith
grouped-nodes s (u ▹ none) = omega arith
grouped-nodes s (u ▹ w ▹ us) = omega arith

no_sign : (s : Sign) → SignFits s 0 → s ≡ None
no_sign None h = refl
no_sign Sequence h = absurd (omega (arith, h))
no_sign Choice h = absurd (omega (arith, h))
no_sign Interleaving h = absurd (omega (arith, h))

-- the members of a group stand on the stack as those of what it becomes
module _ {x : Text} (s : Sign) {v : Bool} (g : Gathered) (old new : List Head) (top n : ℕ) (e : length new ≡ length old) (i : top ≤ length new) where
  stack-grouped : (us : Members Spelling) → KeepsMembers x s us v g → g.top + members_weight 1 1 us ≡ top
      → trees_on x (drop g.top new) ≡ stacked us (trees_on x (drop top old)) → HeadsFit x (drop g.top new)
      → OnStack x (grouped s us) old new top (grouped_by g s n).top
  stack-grouped none k t r h =
      rw k.members_are record { entries = e; top_is = omega (arith, t); trees_are = r; heads = h }
  stack-grouped (u ▹ none) k t r h =
      let d = drop-cons new g.top no_head (omega (arith, t, some-node u)) in
      let q : suc g.top ≡ g.top + 1 = omega arith in
      let z = subst (λ l. HeadsFit x l) d h in
      rw (k.members_are, ← q)
      record {
        entries = e;
        top_is = omega (arith, t);
        trees_are = pop x (get_or new g.top no_head) (drop (suc g.top) new) u (trees_on x (drop top old)) (ap (trees_on x) (sym d) ∙ r) z;
        heads = z.1;
      }
  stack-grouped (u ▹ w ▹ us) k t r h =
      let a : eqb g.members 0 ≡ false = ne_eqb g.members 0 (λ e. omega (arith, k.members_are)) in
      let b : eqb g.members 1 ≡ false = ne_eqb g.members 1 (λ e. omega (arith, k.members_are)) in
      rw (a, b) record { entries = e; top_is = omega (arith, t); trees_are = r; heads = h }

module _ {x : Text} {old new : List Head} {p top place : ℕ} {sign : Sign} {g : Gathered} (h : Looping x old new p top place sign g)
    (e : get_or x place 0 ≡ code ")") where
  abbrev w : Walking x old new h.sign_of_group h.members (behind_group h) top place sign g
  w = h.walking

  all_done : h.members ≡ w.done
  all_done = w.parts ∙ ap (λ (l : Members Spelling). w.done ⧺ l) (walked-over h e) ∙ append-none w.done

  sign-known : sign ≡ h.sign_of_group
  sign-known =
      ⊎_elim
      (λ (d, z). z ∙ sym (no_sign h.sign_of_group
      (subst (λ (ts : Members Spelling). SignFits h.sign_of_group (size ts)) (all_done ∙ d) h.stands.formed.0)))
      (λ z. z)
      w.sign_is

  ends-ahead : drop place x ≡ code ")" ∷ behind_group h
  ends-ahead = w.ahead ∙ ap (λ (l : Members Spelling). members_text l h.sign_of_group ++ (code ")" ∷ behind_group h)) (walked-over h e)

  mark-here : mark_at x (place + 1) ≡ h.mark
  mark-here = mark-at x (place + 1) h.mark h.stands.rest h.stands.stops (drop-behind x (code ")" ∷ []) (behind_group h) place ends-ahead)

  abbrev s : Sign
  s = h.sign_of_group

  abbrev us : Members Spelling
  us = gathered_of s w.done

  abbrev closed_tree : Syntax
  closed_tree = settled_group s (tidy_all w.done)

  abbrev closed : Tidied
  closed = group_closed_by g s (place + 1)

  mark_is : mark_at x closed.next ≡ h.mark
  mark_is = ap (mark_at x) (next-closed g s (place + 1)) ∙ mark-here

  -- the text ends behind the mark
  text-ends : place + 1 + length (mark_text h.mark) ≡ p + length (text (marked h.mark (group s h.members)))
  text-ends =
      omega (
        arith,
        length-drop p x,
        ap length h.stands.splits,
        length-append (text (marked h.mark (group s h.members))) h.stands.rest,
        length-drop place x,
        ap length ends-ahead,
        length-append (mark_text h.mark) h.stands.rest,
        h.from,
        place_inside h,
      )

  on_stack : OnStack x (tidy (marked h.mark (group s w.done))) old new top (marked_by x closed).top
  on_stack =
      subst (λ n. OnStack x (tidy (marked h.mark (group s w.done))) old new top n)
      (sym (mark-places (given_mark g s) (grouped_by g s (place + 1))).0)
      (stack-mark h.mark closed_tree
      (stack-mark (dropped_mark s (any_nullable (tidy_all w.done))) (grouped s us)
      (stack-grouped s g old new top (place + 1) w.entries (omega (arith, h.inside, h.stack_length, w.entries)) us w.keeps w.top_is w.trees_are
      w.heads)))

  -- the whole group, with its mark
  done-tidied : TidiedAt x old new p top (marked_by x closed) (marked h.mark (group s w.done))
  done-tidied =
      record {
        keeps = keeps-mark h.mark closed_tree mark_is (keeps-closed s us (place + 1) w.keeps w.several);
        next_is =
            next-mark x h.mark closed mark_is ∙ ap (λ n. n + length (mark_text h.mark)) (next-closed g s (place + 1)) ∙ text-ends
            ∙ ap (λ (ts : Members Spelling). p + length (text (marked h.mark (group s ts)))) all_done;
        few =
            omega (
              arith,
              mark-nodes h.mark closed_tree,
              mark-nodes (dropped_mark s (any_nullable (tidy_all w.done))) (grouped s us),
              grouped-nodes s us,
              w.few,
            );
        on_stack = on_stack;
      }

  pub group-tidied : TidiedAt x old new p top (marked_by x (group_closed_by g sign (place + 1))) (marked h.mark (group s h.members))
  group-tidied =
      subst (λ (ts : Members Spelling). TidiedAt x old new p top (marked_by x (group_closed_by g sign (place + 1))) (marked h.mark (group h.sign_of_group ts)))
      (sym all_done)
      (subst (λ n. TidiedAt x old new p top (marked_by x (group_closed_by g n (place + 1))) (marked h.mark (group h.sign_of_group w.done))) (sym sign-known)
      done-tidied)
