-- Words and trees of the stack: where the next tree begins, and the tree at a place.
use mathlib.Core.{Path.◌≡◌, Path.refl, Path.sym, Path.ap, Path.◌∙◌, List.List, List.[], List.◌∷◌, List.◌++◌}
use Rattle.std.specs.Prelude.{ℕ, zero, suc, ◌+◌, ◌-◌, ◌≤◌, ◌<◌}
use native.Mathlib.{Omega.arith, Nat.zero-add, Nat.add-zero}
use lib.{ListN.length, ListN.take, ListN.drop, ListN.get_or, ListN.take-append-drop, ListN.length-drop}
use Rattle.std.proofs.Common.{drop-cons, drop-drop, take-add, take-suc, get_or-drop}
use Rattle.fields.specs.{Bytes.Text, Tests.by-test}
use Rattle.model.specs.{Fault.name_from, Flatten.nil, Syntax.Spelling, Syntax.Syntax}
use Rattle.model.specs.Tree.{leaf, group, marked, Members, none, ◌▹◌, nodes, members_weight}
use Rattle.canonical.specs.{declared.head.Head.Head, Order.smallest_name, Writer.Head.no_head, Writer.Head.is_atom, Writer.Lists.tree_at, Writer.Lists.head_at}
use Rattle.canonical.specs.Writer.Stack.{turned, tree_with, trees_on, HeadFits, HeadsFit}

-- a sum over trees
module _ (f : Syntax → ℕ) where
  abbrev pub sum : List Syntax → ℕ
  sum [] = 0
  sum (t ∷ l) = f t + sum l

  sum-append : (l r : List Syntax) → sum (l ++ r) ≡ sum l + sum r
  sum-append [] r = sym (zero-add (sum r))
  sum-append (t ∷ l) r = omega (arith, sum-append l r)

  pub sum-rest : (n : ℕ) (l : List Syntax) → sum (take n l) + sum (drop n l) ≡ sum l
  sum-rest n l = sym (sum-append (take n l) (drop n l)) ∙ ap sum (take-append-drop n l)

  -- the same over members
  pub sum-turned : (g : Members Spelling → ℕ) → ((t : Syntax) (ts : Members Spelling) → g (t ▹ ts) ≡ f t + g ts)
      → (l : List Syntax) (ts : Members Spelling) → g (turned l ts) ≡ sum l + g ts
  sum-turned g e [] ts = sym (zero-add (g ts))
  sum-turned g e (t ∷ l) ts = sum-turned g e l (t ▹ ts) ∙ omega (arith, e t ts)

-- the nodes of the first n trees
abbrev pub spans : ℕ → List Syntax → ℕ
spans n l = sum nodes (take n l)

-- the trees below the head at p, and the place behind n of them
abbrev pub trees_below : Text → List Head → ℕ → List Syntax
trees_below x stack p = trees_on x (drop (suc p) stack)

abbrev pub place_behind : Text → List Head → ℕ → ℕ → ℕ
place_behind x stack p n = suc p + spans n (trees_below x stack p)

spans-add : (n m : ℕ) (l : List Syntax) → spans (n + m) l ≡ spans n l + spans m (drop n l)
spans-add n m l = ap (sum nodes) (take-add n m l) ∙ sum-append nodes (take n l) (take m (drop n l))

pub spans-suc : (n : ℕ) (l : List Syntax) → n < length l → spans (suc n) l ≡ spans n l + nodes (get_or l n nil)
spans-suc n l h = ap (sum nodes) (take-suc l n nil h) ∙ sum-append nodes (take n l) (get_or l n nil ∷ []) ∙ omega arith

pub some-node : (t : Syntax) → 1 ≤ nodes t
some-node (marked m (leaf a)) = omega arith
some-node (marked m (group s ts)) = omega arith

pub each_counts : (n : ℕ) (l : List Syntax) → n ≤ length l → n ≤ spans n l
each_counts zero l h = omega arith
each_counts (suc n) [] h = absurd (omega arith)
each_counts (suc n) (t ∷ l) h = omega (arith, some-node t, each_counts n l (omega arith))

-- one of n trees beside the others
beside-others : (j n : ℕ) (l : List Syntax) → j < n → n ≤ length l → nodes (get_or l j nil) + n ≤ suc (spans n l)
beside-others j zero l k h = absurd (omega arith)
beside-others j (suc n) [] k h = absurd (omega arith)
beside-others zero (suc n) (t ∷ l) k h = omega (arith, each_counts n l (omega arith))
beside-others (suc j) (suc n) (t ∷ l) k h = omega (arith, some-node t, beside-others j n l (omega arith) (omega arith))

module _ {x : Text} {h : Head} {l : List Syntax} (f : HeadFits x h l) where
  -- a node more than those of the members
  pub nodes-with : nodes (tree_with x h l) ≡ suc (spans h.members l)
  nodes-with =
      by-test (is_atom h.shape)
      (λ e. rw (e, (f.atom_is e).0))
      (λ e. rw e (omega (arith, sum-turned nodes (members_weight 1 1) (λ t ts. refl) (take h.members l) none)))

module _ (x : Text) where
  pub trees-none : trees_on x [] ≡ []
  unfolding trees_on
  trees-none = refl

  pub trees-more : (h : Head) (l : List Head) → trees_on x (h ∷ l) ≡ tree_with x h (trees_on x l) ∷ drop h.members (trees_on x l)
  unfolding trees_on
  trees-more h l = refl

  pub heads-drop : (n : ℕ) (l : List Head) → HeadsFit x l → HeadsFit x (drop n l)
  heads-drop zero l h = h
  heads-drop (suc n) [] h = h
  heads-drop (suc n) (w ∷ l) h = heads-drop n l h.1

  -- behind the words of n trees stand the others
  pub skip : (l : List Head) (n : ℕ) → HeadsFit x l → trees_on x (drop (spans n (trees_on x l)) l) ≡ drop n (trees_on x l)
  skip [] zero h = refl
  skip [] (suc n) h = simp trees-none
  skip (w ∷ l) zero h = refl
  skip (w ∷ l) (suc n) h =
      let m = w.members in
      let e : nodes (tree_with x w (trees_on x l)) + spans n (drop m (trees_on x l)) ≡ suc (spans (m + n) (trees_on x l)) =
      omega (arith, nodes-with h.0, spans-add m n (trees_on x l)) in
      rw (trees-more, e, skip l (m + n) h.1) (sym (drop-drop n m (trees_on x l)))

  -- every word is a node
  pub every-word : (l : List Head) → HeadsFit x l → sum nodes (trees_on x l) ≡ length l
  every-word [] h = rw trees-none
  every-word (w ∷ l) h =
      rw trees-more (omega (arith, nodes-with h.0, sum-rest nodes w.members (trees_on x l), every-word l h.1))

  module _ (stack : List Head) where
    pub heads-from : {low p : ℕ} → low ≤ p → HeadsFit x (drop low stack) → HeadsFit x (drop p stack)
    heads-from {low} {p} h f =
        let e : low + (p - low) ≡ p = omega arith in
        rw (drop-drop, e) at (heads-drop (p - low) (drop low stack) f)

    module _ (p : ℕ) (h : p < length stack) where
      -- the trees from p on
      pub trees-at : trees_on x (drop p stack)
          ≡ tree_with x (head_at stack p) (trees_below x stack p) ∷ drop (head_at stack p).members (trees_below x stack p)
      trees-at = rw (drop-cons stack p no_head h, trees-more)

      pub tree-at : tree_at x stack p ≡ tree_with x (head_at stack p) (trees_below x stack p)
      tree-at = rw trees-at

      module _ (f : HeadsFit x (drop p stack)) where
        pub fits-at : HeadFits x (head_at stack p) (trees_below x stack p)
        fits-at = (rw (drop-cons stack p no_head h) at f).0

        pub size-at : (head_at stack p).size ≡ nodes (tree_at x stack p)
        size-at = fits-at.size_is ∙ ap nodes (sym tree-at)

        pub below : HeadsFit x (drop (suc p) stack)
        below = heads-from {low = p} {p = suc p} (omega arith) f

        pub trees-from : (j : ℕ) → trees_on x (drop (place_behind x stack p j) stack) ≡ drop j (trees_below x stack p)
        trees-from j = rw (← drop-drop) (skip (drop (suc p) stack) j below)

        module _ (j : ℕ) (k : j < length (trees_below x stack p)) where
          pub tree-from : tree_at x stack (place_behind x stack p j) ≡ get_or (trees_below x stack p) j nil
          tree-from = rw (trees-from j, get_or-drop, add-zero)

          pub place-next : place_behind x stack p (suc j) ≡ place_behind x stack p j + nodes (tree_at x stack (place_behind x stack p j))
          place-next = rw tree-from (omega (arith, spans-suc j (trees_below x stack p) k))

          pub place_inside : place_behind x stack p j < length stack
          place_inside =
              let r = trees_below x stack p in
              omega (
                arith,
                spans-suc j r k,
                some-node (get_or r j nil),
                sum-rest nodes (suc j) r,
                every-word (drop (suc p) stack) below,
                length-drop (suc p) stack,
              )

          -- a member has fewer nodes than the group beside the other members
          pub few-from : j < (head_at stack p).members
              → nodes (tree_at x stack (place_behind x stack p j)) + (head_at stack p).members ≤ nodes (tree_at x stack p)
          few-from m =
              rw (tree-from, tree-at, nodes-with fits-at)
              (beside-others j (head_at stack p).members (trees_below x stack p) m fits-at.enough)

    -- the smallest name of a tree whose head stands from low on
    module _ {low p : ℕ} (i : low ≤ p) (h : p < length stack) (f : HeadsFit x (drop low stack)) {head : Head} (e : head ≡ head_at stack p) where
      fits : HeadFits x (head_at stack p) (trees_below x stack p)
      fits = fits-at p h (heads-from i f)

      pub least_inside : head.least ≤ length x
      least_inside = rw e fits.least_inside

      pub name_is : name_from x head.least ≡ smallest_name (tree_at x stack p)
      name_is = rw e (fits.least_is ∙ ap smallest_name (sym (tree-at p h)))
