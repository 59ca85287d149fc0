-- The members of a group are listed, the last first: each begins behind those that are listed.
use mathlib.Core.{Path.◌≡◌, Path.refl, Path.sym, Path.ap, Path.subst, Path.◌∙◌, Logic.◌⊎◌, Logic.⊎_elim, List.List, List.[], List.◌∷◌}
use Prim.Native.{Nat.ℕ, Nat.suc, Nat.◌+◌, Nat.◌-◌, Nat.◌≤◌, Nat.◌<◌}
use Rattle.std.proofs.Common.{arith}
use lib.{ListN.length, ListN.take, ListN.get_or, ListN.set, ListN.length-set, Seq.take-suc}
use Rattle.fields.specs.{Bytes.Text, Limits.max_nodes, Tests.by-test}
use Rattle.model.specs.{Tree.Members, Tree.none, Tree.◌▹◌, Tree.nodes, Flatten.nil, Syntax.Spelling, Syntax.Syntax, Syntax.sign_text}
use Rattle.model.specs.declared.rule.Sign.{Sign}
use Rattle.model.specs.declared.rule.Sign.TheVariants.{None, Sequence, Choice, Interleaving}
use Rattle.canonical.specs.Writer.{Head.is_atom, Head.is_group, Head.sign_of, Keeps.sign_byte}
use mathlib.Core.{List.nil≢cons, Bool.true, Bool.false, Bool.true≢false, Bool.false≢true}
use Rattle.canonical.specs.declared.head.Shape.{Shape, TheVariants.Atom, TheVariants.Group}
use Rattle.canonical.specs.declared.head.Head.{Head}
use Rattle.canonical.specs.{Neat.Rising, Order.insert, Order.sort, Order.arrange, Order.Sorted.sort-rising}
use Rattle.canonical.specs.Writer.Stack.{turned, HeadFits}
use Rattle.canonical.specs.Writer.Stack.Skip.{trees_below, place_behind, tree-from, place_inside, place-next, few-from, fits-at, size-at, below, heads-from}
use Rattle.canonical.specs.Writer.Lists.{tree_at, head_at, trees_listed, Inserted, InsertReady, MembersReady}
use Rattle.canonical.specs.Writer.Lists.Laws.{moved_none, put-before, put-each, put-listed, nothing-behind, turned-append}
use Rattle.canonical.specs.Writer.Lists.Narrow.{rising-falls}

-- a member of the group at p stands at q
pub record MemberAt (x : Text) (stack : List Head) (p q : ℕ) : Type 0 where
  pub place : (suc p ≤ q) × (q < max_nodes)
  pub few : nodes (tree_at x stack q) + (head_at stack p).members ≤ nodes (tree_at x stack p)

-- the places from start to k hold the first members, and m is the place of the next
pub record Listing (x : Text) (stack : List Head) (old : List ℕ) (p start : ℕ) (list : List ℕ) (k m : ℕ) : Type 0 where
  pub inside : (start ≤ k) × (k ≤ start + (head_at stack p).members)
  pub before : take start list ≡ take start old
  pub list_length : length list ≡ length old
  pub members_are : trees_listed x stack list start k ≡ arrange (sign_of (head_at stack p).shape) (turned (take (k - start) (trees_below x stack p)) none)
  pub each : (q : ℕ) → start ≤ q → q < k → MemberAt x stack p (get_or list q 0)
  pub next : m ≡ place_behind x stack p (k - start)

arrange-none : (s : Sign) → none ≡ arrange s none
arrange-none None = refl
arrange-none Sequence = refl
arrange-none Choice = refl
arrange-none Interleaving = refl

one_more : (l : List Syntax) (n : ℕ) → n < length l → turned (take (suc n) l) none ≡ get_or l n nil ▹ turned (take n l) none
one_more l n h = rw (take-suc l n nil h) (turned-append (take n l) (get_or l n nil ∷ []) none)

-- a sign other than `,` sorts
sorts : (h : Shape) → sign_text (sign_of h) ≡ sign_byte (sign_of h) ∷ [] → is_group Sequence h ≡ false → (ts : Members Spelling)
    → arrange (sign_of h) ts ≡ sort ts
sorts Atom e n ts = absurd (nil≢cons e)
sorts (Group None) e n ts = absurd (nil≢cons e)
sorts (Group Sequence) e n ts = absurd (true≢false n)
sorts (Group Choice) e n ts = refl
sorts (Group Interleaving) e n ts = refl

sorts-more : (h : Shape) → sign_text (sign_of h) ≡ sign_byte (sign_of h) ∷ [] → is_group Sequence h ≡ false → (t : Syntax) (ts : Members Spelling)
    → insert t (arrange (sign_of h) ts) ≡ arrange (sign_of h) (t ▹ ts)
sorts-more h e n t ts = ap (insert t) (sorts h e n ts) ∙ sym (sorts h e n (t ▹ ts))

keeps-more : (h : Shape) (t : Syntax) (ts : Members Spelling) → is_group Sequence h ≡ true → t ▹ arrange (sign_of h) ts ≡ arrange (sign_of h) (t ▹ ts)
keeps-more Atom t ts e = absurd (false≢true e)
keeps-more (Group None) t ts e = absurd (false≢true e)
keeps-more (Group Sequence) t ts e = refl
keeps-more (Group Choice) t ts e = absurd (false≢true e)
keeps-more (Group Interleaving) t ts e = absurd (false≢true e)

module _ {x : Text} {stack : List Head} {old : List ℕ} {p start : ℕ} (r : MembersReady x stack old p start) where
  inside-stack : p < length stack
  inside-stack = omega (arith, r.entries, r.inside)

  group-fits : HeadFits x (head_at stack p) (trees_below x stack p)
  group-fits = fits-at x stack p inside-stack r.heads

  pub listing_none : Listing x stack old p start old start (p + 1)
  listing_none =
      let e : start - start ≡ 0 = omega arith in
      record {
        inside = omega arith;
        before = refl;
        list_length = refl;
        members_are = rw (e, nothing-behind old start) (arrange-none (sign_of (head_at stack p).shape));
        each = λ q h i. absurd (omega arith);
        next = rw e (omega arith);
      }

  module _ {list : List ℕ} {k m : ℕ} (c : Listing x stack old p start list k m) (h : k < start + (head_at stack p).members) where
    enough : k - start < length (trees_below x stack p)
    enough = omega (arith, c.inside, group-fits.enough)

    pub next-member : MemberAt x stack p m
    next-member =
        rw c.next
        record {
          place = omega (arith, place_inside x stack p inside-stack r.heads (k - start) enough, r.entries);
          few = few-from x stack p inside-stack r.heads (k - start) enough (omega (arith, c.inside));
        }

    -- not an atom, which has no members
    sign-written : sign_text (sign_of (head_at stack p).shape) ≡ sign_byte (sign_of (head_at stack p).shape) ∷ []
    sign-written =
        by-test (is_atom (head_at stack p).shape)
        (λ e. absurd (omega (arith, c.inside, (group-fits.atom_is e).0)))
        (λ e. (group-fits.group_is e).1)

    next-tree : turned (take (suc (k - start)) (trees_below x stack p)) none
        ≡ tree_at x stack m ▹ turned (take (k - start) (trees_below x stack p)) none
    next-tree = rw (c.next, tree-from x stack p inside-stack r.heads (k - start) enough) (one_more (trees_below x stack p) (k - start) enough)

    next_place : {head : Head} → head ≡ head_at stack m → m + head.size ≡ place_behind x stack p (suc (k - start))
    next_place e =
        let i = next-member.place in
        ap (λ (g : Head). m + g.size) e
        ∙ ap (λ n. m + n) (size-at x stack m (omega (arith, i, r.entries)) (heads-from x stack {low = p} {p = m} (omega (arith, i)) r.heads))
        ∙ ap (λ q. q + nodes (tree_at x stack q)) c.next ∙ sym (place-next x stack p inside-stack r.heads (k - start) enough)

    listed-rise : is_group Sequence (head_at stack p).shape ≡ false → Rising (trees_listed x stack list start k)
    listed-rise n =
        let ts = turned (take (k - start) (trees_below x stack p)) none in
        subst Rising (sym (c.members_are ∙ sorts (head_at stack p).shape sign-written n ts)) (sort-rising ts)

    pub insert-ready : is_group Sequence (head_at stack p).shape ≡ false → InsertReady x stack list start k m
    insert-ready n =
        record {
          low = suc p;
          heads = below x stack p inside-stack r.heads;
          entries = r.entries;
          list_length = c.list_length ∙ r.list_length;
          range = omega (arith, c.inside, r.room);
          places = λ q i j. (c.each q i j).place;
          place = next-member.place;
          falling = rising-falls x stack list start k (omega (arith, c.list_length, r.list_length, r.room)) (listed-rise n);
        }

    module _ {new : List ℕ} {head : Head} (e : head ≡ head_at stack m) where
      listing-more : take start new ≡ take start list → length new ≡ length list
          → trees_listed x stack new start (suc k)
          ≡ arrange (sign_of (head_at stack p).shape) (tree_at x stack m ▹ turned (take (k - start) (trees_below x stack p)) none)
          → ((q : ℕ) → start ≤ q → q < suc k → (get_or new q 0 ≡ m) ⊎ ((j : ℕ) × (start ≤ j) × (j < k) × (get_or new q 0 ≡ get_or list j 0)))
          → Listing x stack old p start new (k + 1) (m + head.size)
      listing-more b l t s =
          let f : k + 1 ≡ suc k = omega arith in
          let g : suc k - start ≡ suc (k - start) = omega (arith, c.inside) in
          rw f
          record {
            inside = omega (arith, c.inside);
            before = b ∙ c.before;
            list_length = l ∙ c.list_length;
            members_are = rw g (t ∙ ap (arrange (sign_of (head_at stack p).shape)) (sym next-tree));
            each =
                λ q i j.
                ⊎_elim (λ e. subst (MemberAt x stack p) (sym e) next-member) (λ (o, u, v, e). subst (MemberAt x stack p) (sym e) (c.each o u v)) (s q i j);
            next = next_place e ∙ ap (place_behind x stack p) (sym g);
          }

    module _ {head : Head} (e : head ≡ head_at stack m) {after new : List ℕ} (a : after ≡ new) where
      pub listing-sorted : is_group Sequence (head_at stack p).shape ≡ false → Inserted x stack list new start k m
          → Listing x stack old p start after (k + 1) (m + head.size)
      listing-sorted n i =
          rw a
          (listing-more e i.before i.list_length
          (i.members_are ∙ ap (insert (tree_at x stack m)) c.members_are ∙ sorts-more (head_at stack p).shape sign-written n (tree_at x stack m) _)
          i.each)

    pub listing-kept : {head : Head} → head ≡ head_at stack m → {after : List ℕ} → after ≡ set list k m → is_group Sequence (head_at stack p).shape ≡ true
        → Listing x stack old p start after (k + 1) (m + head.size)
    listing-kept e a n =
        let v = moved_none list start k c.inside.0 (omega (arith, c.list_length, r.list_length, r.room)) in
        let t : trees_listed x stack (set list k m) start (suc k) ≡ tree_at x stack m ▹ trees_listed x stack list start k =
        rw (put-listed x stack v m, nothing-behind list k) in
        rw a
        (listing-more e (put-before v m) (length-set list k m)
        (t ∙ ap (λ ts. tree_at x stack m ▹ ts) c.members_are ∙ keeps-more (head_at stack p).shape (tree_at x stack m) _ n)
        (put-each v m))
