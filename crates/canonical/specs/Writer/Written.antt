-- What is put of a tree: the text of its node, member by member, and its mark.
use mathlib.Core.{Path.◌≡◌, Path.refl, Path.sym, Path.ap, Path.◌∙◌, Bool.true, Bool.false}
use Rattle.std.specs.Prelude.{List, [], ◌∷◌, ◌++◌, map, length, take, drop, get_or, set}
use Rattle.std.proofs.Common.{append_assoc, length-append, length-take, length-set, take-append-drop, take-take, get_or-take}
use Prim.Native.{Nat.ℕ, Nat.suc, Nat.◌+◌, Nat.◌-◌, Nat.◌≤◌, Nat.◌<◌, Char.code}
use native.Mathlib.{Omega.arith, Nat.add-zero}
use Rattle.fields.specs.{Bytes.Text, Bytes.bytes, Limits.max_nodes, Put.Put, Put.Laws.put_then, Put.Laws.put_one, Put.Laws.put-length}
use Rattle.model.specs.declared.rule.Sign.{Sign}
use Rattle.model.specs.Tree.{group, Members, none, ◌▹◌, size, nodes}
use Rattle.model.specs.{Syntax.Spelling, Syntax.Syntax, Syntax.sign_text, Syntax.mark_text, Syntax.node_text, Syntax.text, Syntax.members_text}
use Rattle.model.specs.{Syntax.more_text}
use Rattle.canonical.specs.Writer.{Head.is_atom, Head.sign_of, Keeps.sign_byte}
use Rattle.canonical.specs.declared.head.Head.{Head}
use Rattle.canonical.specs.Order.{order, order_all, arrange, Kept.order-length, Kept.order-size, Sorted.arrange-order}
use Rattle.canonical.specs.Writer.{Place.piece_at, Stack.turned, Stack.tree_with, Stack.trees_on, Stack.HeadFits}
use Rattle.canonical.specs.Writer.Stack.Skip.{each_counts, nodes-with, heads-from, tree-at, fits-at}
use Rattle.canonical.specs.Writer.Lists.{tree_at, head_at, trees_listed, MembersReady, MembersListed, PutReady, TreePut, Laws.nothing-behind}
use Rattle.canonical.specs.Writer.Lists.{Laws.listed-less}

pub put-nothing : (old : Text) (at : ℕ) → at ≤ length old → Put old old at [] at
put-nothing old at h =
    record { fits = omega arith; end_is = omega arith; text_is = sym (take-append-drop at old) ∙ ap (λ k. take at old ++ drop k old) (sym (add-zero at)) }

-- behind a part of a whole that fits, the rest fits
rest-fits : {old new : Text} {to end : ℕ} {piece whole : Text} → Put old new to piece end → (rest : Text) → piece ++ rest ≡ whole
    → to + length whole ≤ length old → end + length rest ≤ length new
rest-fits {piece = piece} p rest e h = omega (arith, p.end_is, put-length p, length-append piece rest, ap length e)

turned-size : (l : List Syntax) (ts : Members Spelling) → size (turned l ts) ≡ length l + size ts
turned-size [] ts = omega arith
turned-size (t ∷ l) ts = turned-size l (t ▹ ts) ∙ omega arith

-- the members, each with a byte before it, and `)`
abbrev led : ℕ → ℕ → Members Spelling → Text
led first sign none = bytes ")"
led first sign (t ▹ ts) = first ∷ (text t ++ led sign sign ts)

module _ (s : Sign) (sign : ℕ) (e : sign_text s ≡ sign ∷ []) where
  some-led : (first : ℕ) (t : Syntax) (ts : Members Spelling) → first ∷ (members_text (t ▹ ts) s ++ bytes ")") ≡ led first sign (t ▹ ts)
  some-led first t none = ap (λ l. first ∷ l) (append_assoc (text t) [] (bytes ")"))
  some-led first t (u ▹ us) =
      ap (λ l. first ∷ l) (append_assoc (text t) (more_text (u ▹ us) s) (bytes ")") ∙ ap (λ l. text t ++ l) (rw e (some-led sign u us)))

  group-led : (ts : Members Spelling) → 0 < size ts → node_text (group s ts) ≡ led (code "(") sign ts
  group-led none h = absurd (omega arith)
  group-led (t ▹ ts) h = some-led (code "(") t ts

abbrev mark_at : List Head → ℕ → Text
mark_at stack p = mark_text (head_at stack p).mark

-- the byte of its sign
abbrev pub sign_at : List Head → ℕ → ℕ
sign_at stack p = sign_byte (sign_of (head_at stack p).shape)

-- what is yet to be put of the group at p: the members whose places stand before k
abbrev ahead : Text → List Head → List ℕ → ℕ → ℕ → ℕ → ℕ → Text
ahead x stack places p start before k = led before (sign_at stack p) (order_all (trees_listed x stack places start k)) ++ mark_at stack p

-- What the loop over the members keeps. The piece is what is put so far, up to the place next.
pub record Writing (x : Text) (stack : List Head) (places list old new : List ℕ) (p start end to before next k : ℕ) : Type 0 where
  pub kept : take end list ≡ take end places
  pub same_length : length list ≡ length places
  pub range : (start ≤ k) × (k ≤ end)
  pub piece : Text
  pub put : Put old new to piece next
  pub whole : piece ++ ahead x stack places p start before k ≡ text (order (tree_at x stack p))

-- the next member has room, on the list and in the buffer
pub record MemberNext (x : Text) (stack : List Head) (list new : List ℕ) (p end before next k : ℕ) : Type 0 where
  pub on_list : k - 1 < max_nodes
  pub above : p < get_or list (k - 1) 0
  pub byte_fits : next < length new
  pub ready : PutReady x stack list (set new next before) (get_or list (k - 1) 0) end (next + 1)

-- A tree that is to be put.
module _ {x : Text} {stack : List Head} {list buffer : List ℕ} {p start to : ℕ} (r : PutReady x stack list buffer p start to) where
  tree_is : tree_at x stack p ≡ tree_with x (head_at stack p) (trees_on x (drop (suc p) stack))
  tree_is = tree-at x stack p (omega (arith, r.inside, r.entries))

  head-fits : HeadFits x (head_at stack p) (trees_on x (drop (suc p) stack))
  head-fits = fits-at x stack p (omega (arith, r.inside, r.entries)) r.heads

  whole-fits : to + length (text (order (tree_at x stack p))) ≤ length buffer
  whole-fits = rw (order-length (tree_at x stack p)) r.fits

  -- an atom
  module _ (e : is_atom (head_at stack p).shape ≡ true) where
    atom-text : piece_at x (head_at stack p).least ++ mark_at stack p ≡ text (order (tree_at x stack p))
    atom-text = rw (tree_is, (head-fits.atom_is e).1, e) refl

    pub atom-fits : ((head_at stack p).least ≤ length x) × (to + length (piece_at x (head_at stack p).least) ≤ length buffer)
    atom-fits = (
      head-fits.least_inside,
      omega (arith, whole-fits, length-append (piece_at x (head_at stack p).least) (mark_at stack p), ap length atom-text),
    )

    -- behind which the mark is put
    module _ {mid : List ℕ} {end : ℕ} (a : Put buffer mid to (piece_at x (head_at stack p).least) end) where
      pub atom-mark-fits : end + length (mark_at stack p) ≤ length mid
      atom-mark-fits = rest-fits a (mark_at stack p) atom-text whole-fits

      pub atom-put : {new : List ℕ} {last : ℕ} → Put mid new end (mark_at stack p) last → TreePut x stack list list buffer new p start to last
      atom-put b = record { before = refl; list_length = refl; put = rw atom-text at (put_then a b) }

  pub members-ready : MembersReady x stack list p start
  members-ready =
      record {
        heads = r.heads;
        entries = r.entries;
        list_length = r.list_length;
        inside = r.inside;
        room =
            omega (
              arith,
              r.room,
              ap nodes tree_is,
              nodes-with head-fits,
              each_counts (head_at stack p).members (trees_on x (drop (suc p) stack)) head-fits.enough,
            );
      }

  -- a group
  module _ (e : is_atom (head_at stack p).shape ≡ false) where
    abbrev own : Members Spelling
    own = turned (take (head_at stack p).members (trees_on x (drop (suc p) stack))) none

    own-size : size own ≡ (head_at stack p).members
    own-size =
        turned-size (take (head_at stack p).members (trees_on x (drop (suc p) stack))) none
        ∙ rw length-take (omega (arith, head-fits.enough))

    module _ {places : List ℕ} {end : ℕ} (m : MembersListed x stack list places p start end) where
      group-text : ahead x stack places p start (code "(") end ≡ text (order (tree_at x stack p))
      group-text =
          let s = sign_of (head_at stack p).shape in
          let some : 0 < size (arrange s (order_all own)) = rw (order-size s own, own-size) (omega (arith, (head-fits.group_is e).0)) in
          rw (m.members_are, tree_is, e, ← arrange-order s own)
          (ap (λ l. l ++ mark_at stack p) (sym (group-led s (sign_at stack p) (head-fits.group_is e).1 (arrange s (order_all own)) some)))

      pub writing_begins : Writing x stack places places buffer buffer p start end to (code "(") to end
      writing_begins =
          record {
            kept = refl;
            same_length = refl;
            range = omega (arith, m.end_is);
            piece = [];
            put = put-nothing buffer to (omega (arith, whole-fits));
            whole = group-text;
          }

  -- its members
  module _ {places now new : List ℕ} {end before next k : ℕ} (m : MembersListed x stack list places p start end)
      (w : Writing x stack places now buffer new p start end to before next k) where
    ahead-fits : next + length (ahead x stack places p start before k) ≤ length new
    ahead-fits = rest-fits w.put (ahead x stack places p start before k) w.whole whole-fits

    -- while some are left
    module _ (h : start < k) where
      abbrev place : ℕ
      place = get_or now (k - 1) 0

      place_is : place ≡ get_or places (k - 1) 0
      place_is =
          sym (get_or-take end now (k - 1) 0 (omega (arith, w.range))) ∙ ap (λ l. get_or l (k - 1) 0) w.kept
          ∙ get_or-take end places (k - 1) 0 (omega (arith, w.range))

      place_inside : (p < place) × (place < max_nodes)
      place_inside = omega (arith, place_is, m.places (k - 1) (omega arith) (omega (arith, w.range)))

      member-room : end + nodes (tree_at x stack place) ≤ max_nodes
      member-room = rw place_is (omega (arith, r.room, m.end_is, m.few (k - 1) (omega arith) (omega (arith, w.range))))

      on_list : k - 1 < max_nodes
      on_list = omega (arith, w.range, member-room)

      listed-first : trees_listed x stack places start k ≡ tree_at x stack place ▹ trees_listed x stack places start (k - 1)
      listed-first =
          listed-less x stack places start k h (omega (arith, on_list, m.list_length, r.list_length))
          ∙ ap (λ q. tree_at x stack q ▹ trees_listed x stack places start (k - 1)) (sym place_is)

      abbrev member : Text
      member = text (order (tree_at x stack place))

      abbrev others : Text
      others = ahead x stack places p start (sign_at stack p) (k - 1)

      ahead-is : ahead x stack places p start before k ≡ before ∷ (member ++ others)
      ahead-is =
          let sign = (sign_at stack p) in
          ap (λ ts. led before sign (order_all ts) ++ mark_at stack p) listed-first
          ∙ ap (λ l. before ∷ l) (append_assoc member (led sign sign (order_all (trees_listed x stack places start (k - 1)))) (mark_at stack p))

      byte_fits : next < length new
      byte_fits = omega (arith, ahead-fits, ap length ahead-is)

      pub member-next : MemberNext x stack now new p end before next k
      member-next =
          record {
            on_list = on_list;
            above = place_inside.0;
            byte_fits = byte_fits;
            ready =
                record {
                  heads = heads-from x stack {low = p} {p = place} (omega (arith, place_inside)) r.heads;
                  entries = r.entries;
                  list_length = w.same_length ∙ m.list_length ∙ r.list_length;
                  inside = place_inside.1;
                  room = member-room;
                  fits =
                      rw (length-set, ← order-length (tree_at x stack place))
                      (omega (arith, ahead-fits, ap length ahead-is, length-append member others));
                };
          }

      pub writing-goes-on : {later newer : List ℕ} {then : ℕ} → TreePut x stack now later (set new next before) newer place end (next + 1) then
          → Writing x stack places later buffer newer p start end to (sign_at stack p) then (k - 1)
      writing-goes-on t =
          record {
            kept = t.before ∙ w.kept;
            same_length = t.list_length ∙ w.same_length;
            range = omega (arith, w.range);
            piece = (w.piece ++ (before ∷ [])) ++ member;
            put = put_then (put_then w.put (put_one new next before byte_fits)) t.put;
            whole =
                append_assoc (w.piece ++ (before ∷ [])) member others ∙ append_assoc w.piece (before ∷ []) (member ++ others)
                ∙ ap (λ l. w.piece ++ l) (sym ahead-is) ∙ w.whole;
          }

    -- behind the last
    module _ (h : k ≤ start) where
      ahead-ends : ahead x stack places p start before k ≡ code ")" ∷ mark_at stack p
      ahead-ends =
          let n : k ≡ start = omega (arith, w.range) in
          ap (λ ts. led before (sign_at stack p) (order_all ts) ++ mark_at stack p)
          (ap (λ j. trees_listed x stack places start j) n ∙ ap (λ l. turned (map (tree_at x stack) l) none) (nothing-behind places start))

      pub bracket-fits : next < length new
      bracket-fits = omega (arith, ahead-fits, ap length ahead-ends)

      pub group-mark-fits : next + 1 + length (mark_at stack p) ≤ length (set new next (code ")"))
      group-mark-fits = rw length-set (omega (arith, ahead-fits, ap length ahead-ends))

      pub group-put : {newer : List ℕ} {last : ℕ} → Put (set new next (code ")")) newer (next + 1) (mark_at stack p) last
          → TreePut x stack list now buffer newer p start to last
      group-put q =
          let i : start ≤ end = omega (arith, m.end_is) in
          record {
            before = sym (take-take start end now i) ∙ ap (take start) w.kept ∙ take-take start end places i ∙ m.before;
            list_length = w.same_length ∙ m.list_length;
            put =
                rw (sym w.whole, ahead-ends, ← append_assoc w.piece (bytes ")") (mark_at stack p))
                (put_then (put_then w.put (put_one new next (code ")") bracket-fits)) q);
          }
