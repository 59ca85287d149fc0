-- A turn of the loop keeps what is known.
use mathlib.Core.{Path.◌≡◌, Path.refl, Path.sym, Path.ap, Path.◌∙◌, Path.subst, Logic.inr, Logic.⊎_elim}
use mathlib.Core.{Bool.true, Bool.false≢true, List.List, List.[], List.◌∷◌}
use Prim.Native.{Nat.ℕ, Nat.suc, Nat.◌+◌, Nat.◌-◌, Nat.◌≤◌, Nat.◌<◌}
use Rattle.std.proofs.Common.{arith}
use Rattle.std.specs.Prelude.{length, drop, get_or}
use Rattle.fields.specs.{Bytes.Text, Tests.by-test}
use Rattle.model.specs.declared.rule.Sign.{Sign}
use Rattle.model.specs.declared.rule.Sign.TheVariants.{None}
use Rattle.model.specs.Tree.{leaf, group, marked, Members, none, ◌▹◌, size, nodes, members_weight, SignFits}
use Rattle.model.specs.Flatten.{◌⧺◌, is_nil, merges, members_of, gathered}
use Rattle.model.specs.Flatten.Merges.{merged}
use Rattle.model.specs.Syntax.{Spelling, Syntax, text}
use Rattle.model.specs.Flatten.Append.{append-none, append-thrice, append-weight}
use Rattle.canonical.specs.{declared.head.Head.Head, declared.tidy.Tidied.Tidied, declared.tidy.Gathered.Gathered, Tidy.stripped, Tidy.tidy}
use Rattle.canonical.specs.Writer.Tidied.{stripped_by, noted_by, FitsOn, added_by, stacked_by, sign_after, member_after}
use Rattle.canonical.specs.Writer.Keeps.{sign_byte, NamedAt, KeepsTree}
use Rattle.canonical.specs.Writer.Keeps.{Laws.named_some, Laws.keeps-stripped, Member.keeps-noted, Member.keeps-member}
use Rattle.canonical.specs.Writer.Stack.{stacked, trees_on}
use Rattle.canonical.specs.Writer.Recursion.{OnStack, TidiedAt, Looping, gathered_of, Steps.strip-nodes, Steps.stack-strip}
use Rattle.canonical.specs.Writer.Recursion.Place.{drop-behind}
use Rattle.canonical.specs.Writer.Recursion.Stepped.{gathered-more, given-more, Stepped, stepped}
use Rattle.canonical.specs.Writer.Recursion.Group.{Turn, PastMember, behind-member, behind_group, size-parts, weight-parts, more_signed, last-signed}
use Rattle.canonical.specs.Writer.Recursion.Group.{splits-here, sign-some, tree-begins, member-stands, formed-others}

-- nodes are no fewer than members
size-weight : (ts : Members Spelling) → size ts ≤ members_weight 1 1 ts
size-weight none = omega arith
size-weight (marked m (leaf a) ▹ ts) = omega (arith, size-weight ts)
size-weight (marked m (group s us) ▹ ts) = omega (arith, size-weight ts)

members-nodes : (u : Syntax) → size (members_of u) < nodes u
members-nodes (marked m (leaf a)) = omega arith
members-nodes (marked m (group s ts)) = omega (arith, size-weight ts)

members-weight : (u : Syntax) → members_weight 1 1 (members_of u) ≤ nodes u
members-weight (marked m (leaf a)) = omega arith
members-weight (marked m (group s ts)) = omega arith

one-weight : (s : Sign) (w : Syntax) → members_weight 1 1 (gathered s (w ∷ [])) ≤ nodes w
one-weight s w =
    by-test (is_nil w) (λ e. rw e (omega arith)) (λ e. by-test (merges s w)
    (λ j. rw (e, j, append-none (members_of w)) (members-weight w))
    (λ j. rw (e, j) (omega arith)))

-- one member is several only where it joins a group that has a sign
joined-signed : {x : Text} (s : Sign) (u : Syntax) {p : ℕ} → NamedAt x u p → merges s u ≡ true → 0 < sign_byte s
joined-signed s (marked m (leaf a)) h e = absurd (false≢true e)
joined-signed s (marked m (group r ts)) h e = subst (λ (q : Sign). 0 < sign_byte q) (ap group_sign (merged s (marked m (group r ts)) e)) h.proper.1
  where
    group_sign : Syntax → Sign
    group_sign (marked k (leaf a)) = None
    group_sign (marked k (group q us)) = q

one-signed : {x : Text} (s : Sign) (u : Syntax) {t : Tidied} → KeepsTree x u t → 2 ≤ size (gathered s (u ∷ [])) → 0 < sign_byte s
one-signed s u k h =
    ⊎_elim
    (λ e. absurd (omega (arith, h, ap (λ (y : Syntax). size (gathered s (y ∷ []))) e)))
    (λ p. by-test (merges s u)
    (joined-signed s u p)
    (λ j. absurd (omega (arith, rw (named_some u p, j) at h))))
    k.kind_is

module _ {x : Text} {old new : List Head} {p top place : ℕ} {sign : Sign} {g : Gathered} (h : Looping x old new p top place sign g) (t : Turn h)
    (mid : List Head) (r : Tidied) (k : TidiedAt x new mid place g.top r t.member) where
  abbrev s : Sign
  s = h.sign_of_group

  abbrev done : Members Spelling
  done = h.walking.done

  behind : PastMember x s (behind_group h) t.others r.next sign
  behind =
      behind-member x s (behind_group h) t.others r.next sign
      (ap (λ n. drop n x) k.next_is ∙ drop-behind x (text t.member) _ place (splits-here h t)) (more_signed h t) (last-signed h t)

  pub next-inside : r.next < length x
  next-inside = behind.inside

  -- the member as the group takes it
  abbrev u : Syntax
  u = stripped s (tidy t.member)

  abbrev q : Tidied
  q = stripped_by s r

  kept : KeepsTree x u q
  kept = keeps-stripped s (tidy t.member) k.keeps

  standing : OnStack x u new mid g.top q.top
  standing = stack-strip s (tidy t.member) r k.on_stack

  few : nodes u ≤ nodes t.member
  few = omega (arith, strip-nodes s (tidy t.member), k.few)

  -- on the stack there is room for its head
  room-left : (2 ≤ q.top) × (q.top ≤ g.top)
  room-left =
      let w = h.walking in
      (omega (arith, h.room, weight-parts h t, w.few, w.top_is, few, standing.top_is), omega (arith, members-nodes u, standing.top_is))

  fits : FitsOn x mid (noted_by r g) q
  fits =
      let w = h.walking in
      record {
        entries = standing.entries ∙ w.entries ∙ h.stack_length;
        room = (omega (arith, room-left.0), omega (arith, room-left.1, w.top_is, h.inside));
        few = (
          omega (arith, w.keeps.nodes_are, kept.size_is, w.few, few, weight-parts h t, h.room, h.inside),
          omega (
            arith,
            w.keeps.members_are,
            kept.members_is,
            size-weight (gathered_of s done),
            members-nodes u,
            w.few,
            few,
            weight-parts h t,
            h.room,
            h.inside,
          ),
        );
        some = omega (arith, kept.size_is, members-nodes u);
        inside = (w.keeps.within, kept.least_inside);
      }

  -- with the sign and the place behind the member
  abbrev sign' : Sign
  sign' = sign_after sign (get_or x r.next 0)

  abbrev place' : ℕ
  place' = member_after r.next (get_or x r.next 0)

  pub member-fits : FitsOn x mid (noted_by r g) (stripped_by sign' r)
  member-fits = rw behind.sign_is fits

  pub further : place < place'
  further =
      let (b, ((y, e), z)) = tree-begins t.member (member-stands h t).formed in
      omega (arith, behind.from, k.next_is, ap length e)

  several-more : 2 ≤ size (gathered_of s (done ⧺ (t.member ▹ none))) → 0 < sign_byte s
  several-more i = go done refl
    where
      go : (d : Members Spelling) → done ≡ d → 0 < sign_byte s
      go none e =
          one-signed s u kept
          (subst (λ (d : Members Spelling). 2 ≤ size (gathered_of s d)) (ap (λ (d : Members Spelling). d ⧺ (t.member ▹ none)) e) i)
      go (d ▹ ds) e =
          let n : size h.members ≡ suc (suc (size h.members - 2)) = omega (arith, size-parts h t, ap size e) in
          sign-some s (size h.members - 2) (subst (SignFits s) n h.stands.formed.0)

  module _ (after : List Head) (st : after ≡ stacked_by mid sign' (stripped_by sign' r)) where
    on_stack : Stepped x (gathered_of s done ⧺ gathered s (u ∷ [])) (trees_on x (drop top old)) mid after
        (g.top + members_weight 1 1 (gathered_of s done)) (added_by x (noted_by r g) s q).top
    on_stack =
        stepped x s (gathered_of s done) (noted_by r g) q (trees_on x (drop top old)) mid after u kept
        (record {
          below = standing.top_is;
          trees = standing.trees_are ∙ ap (stacked (members_of u)) h.walking.trees_are;
          known = standing.heads;
        })
        (rw behind.sign_is at st) fits.room.0 (omega (arith, fits.room.1, fits.entries))

    pub goes_on-is : Looping x old after p top place' sign' (added_by x (noted_by r g) sign' (stripped_by sign' r))
    goes_on-is =
        let w = h.walking in
        let m = gathered-more s done t.member in
        rw behind.sign_is
        record {
          mark = h.mark;
          sign_of_group = s;
          members = h.members;
          stands = h.stands;
          short = h.short;
          stack_length = h.stack_length;
          room = h.room;
          inside = h.inside;
          from = omega (arith, h.from, further);
          walking =
              record {
                done = done ⧺ (t.member ▹ none);
                left = t.others;
                parts =
                    w.parts ∙ ap (λ (l : Members Spelling). done ⧺ l) t.left_is ∙ sym (append-thrice done (t.member ▹ none) t.others);
                formed = formed-others h t;
                ahead = behind.ahead;
                sign_is = inr refl;
                keeps = rw (m, given-more done t.member) (keeps-member s (keeps-noted s w.keeps (tidy t.member) k.keeps) q u kept);
                few =
                    rw m (omega (
                      arith,
                      append-weight 1 1 (gathered_of s done) (gathered s (u ∷ [])),
                      append-weight 1 1 done (t.member ▹ none),
                      one-weight s u,
                      w.few,
                      few,
                    ));
                several = several-more;
                entries = on_stack.entries ∙ standing.entries ∙ w.entries;
                top_is = rw m (on_stack.top_is ∙ w.top_is);
                trees_are = rw m on_stack.trees_are;
                heads = on_stack.heads;
              };
        }
