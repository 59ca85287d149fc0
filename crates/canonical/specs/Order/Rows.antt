-- Ordering keeps the rows: members of `|` and `&` may stand in any order.
use mathlib.Core.{Logic.◌↔◌, Logic.inl, Logic.inr, Logic.⊎_elim}
use Rattle.fields.specs.Tests.{by-test}
use Rattle.model.specs.{declared.rule.Sign.Sign, Word.Word}
use Rattle.model.proofs.WordLaws.{shuffle-swap}
use Rattle.model.specs.declared.rule.Sign.TheVariants.{None, Sequence, Choice, Interleaving}
use Rattle.model.specs.Tree.{Node, leaf, group, marked, Members, none, ◌▹◌}
use Rattle.model.specs.Syntax.{Spelling, Syntax}
use Rattle.model.specs.Types.{Ty, Operator, sequence, choice, interleaving, Language, Joined, Holds}
use Rattle.model.proofs.TypesLanguages.{Same, itself, thus, back, Empty, Neutral, joined_same, joined-assoc}
use Rattle.model.specs.Model.{operator, joined_type, node_type_with, type_with, types_with}
use Rattle.model.proofs.FlattenRows.{Together, from-together, marked-same}
use Rattle.canonical.specs.Order.{not_after, smallest_name, insert, sort, arrange, order_node, order, order_all}

-- all but sequence
abbrev Turns : Operator → Type 0
Turns sequence = ⊥
Turns choice = Unit {0}
Turns interleaving = Unit {0}

joined-swap : (o : Operator) → Turns o → (P Q : Language) → Same (Joined o P Q) (Joined o Q P)
joined-swap sequence f P Q w = absurd f
joined-swap choice f P Q w = (⊎_elim inr inl, ⊎_elim inr inl)
joined-swap interleaving f P Q w = (λ (u, v, e, p, q). (v, u, shuffle-swap e, q, p), λ (u, v, e, p, q). (v, u, shuffle-swap e, q, p))

-- a member is taken to the front
joined-front : (o : Operator) → Turns o → (P Q R : Language) → Same (Joined o P (Joined o Q R)) (Joined o Q (Joined o P R))
joined-front o f P Q R = thus (back (joined-assoc o P Q R)) (thus (joined_same o (joined-swap o f P Q) (itself R)) (joined-assoc o Q P R))

module _ (f : Spelling → Ty) where
  abbrev rows : Syntax → Language
  rows t = Holds (type_with f t)

  -- the rows of members, joined from the right
  abbrev Rows : Operator → Members Spelling → Language
  Rows o ts = Together o (types_with f ts)

  insert-rows : (o : Operator) → Turns o → (t : Syntax) (ts : Members Spelling) → Same (Rows o (insert t ts)) (Joined o (rows t) (Rows o ts))
  insert-rows o h t none = itself (Rows o (t ▹ none))
  insert-rows o h t (u ▹ us) =
      by-test (not_after (smallest_name t) (smallest_name u))
      (λ e. rw e (itself (Rows o (t ▹ u ▹ us))))
      (λ e. rw e (thus (joined_same o (itself (rows u)) (insert-rows o h t us)) (joined-front o h (rows u) (rows t) (Rows o us))))

  sort-rows : (o : Operator) → Turns o → (ts : Members Spelling) → Same (Rows o (sort ts)) (Rows o ts)
  sort-rows o h none = itself (Neutral o)
  sort-rows o h (t ▹ ts) = thus (insert-rows o h t (sort ts)) (joined_same o (itself (rows t)) (sort-rows o h ts))

  arrange-rows : (s : Sign) (ts : Members Spelling) → Same (Rows (operator s) (arrange s ts)) (Rows (operator s) ts)
  arrange-rows None ts = itself (Rows sequence ts)
  arrange-rows Sequence ts = itself (Rows sequence ts)
  arrange-rows Choice ts = sort-rows choice tt ts
  arrange-rows Interleaving ts = sort-rows interleaving tt ts

  -- members of which there is one are joined from either side
  abbrev FromRight : Operator → Members Spelling → Type 0
  FromRight o ts = Same (Holds (joined_type o (types_with f ts))) (Rows o ts)

  some_right : (o : Operator) (t : Syntax) (ts : Members Spelling) → FromRight o (t ▹ ts)
  some_right o t ts = from-together o (type_with f t) (types_with f ts)

  insert-right : (o : Operator) (t : Syntax) (ts : Members Spelling) → FromRight o (insert t ts)
  insert-right o t none = some_right o t none
  insert-right o t (u ▹ us) =
      by-test (not_after (smallest_name t) (smallest_name u))
      (λ e. rw e (some_right o t (u ▹ us)))
      (λ e. rw e (some_right o u (insert t us)))

  arrange-right : (s : Sign) (t : Syntax) (ts : Members Spelling) → FromRight (operator s) (arrange s (t ▹ ts))
  arrange-right None t ts = some_right sequence t ts
  arrange-right Sequence t ts = some_right sequence t ts
  arrange-right Choice t ts = insert-right choice t (sort ts)
  arrange-right Interleaving t ts = insert-right interleaving t (sort ts)

  arrange-none : (s : Sign) → Same (Holds (node_type_with f (group s (arrange s none)))) Empty
  arrange-none None = itself Empty
  arrange-none Sequence = itself Empty
  arrange-none Choice = itself Empty
  arrange-none Interleaving = itself Empty

  group-rows : (s : Sign) (ts : Members Spelling) → Same (Rows (operator s) (order_all ts)) (Rows (operator s) ts)
      → Same (Holds (node_type_with f (order_node (group s ts)))) (Holds (node_type_with f (group s ts)))
  group-rows s none h = arrange-none s
  group-rows s (t ▹ ts) h =
      thus (arrange-right s (order t) (order_all ts)) (thus (arrange-rows s (order_all (t ▹ ts))) (thus h (back (some_right (operator s) t ts))))

  mutual
    node-rows : (n : Node Spelling) → Same (Holds (node_type_with f (order_node n))) (Holds (node_type_with f n))
    node-rows (leaf a) = itself (Holds (f a))
    node-rows (group s ts) = group-rows s ts (members-rows ts (operator s))

    pub order-rows : (t : Syntax) (w : Word) → Holds (type_with f (order t)) w ↔ Holds (type_with f t) w
    order-rows (marked m n) = marked-same m (node_type_with f (order_node n)) (node_type_with f n) (node-rows n)

    members-rows : (ts : Members Spelling) (o : Operator) → Same (Rows o (order_all ts)) (Rows o ts)
    members-rows none o = itself (Neutral o)
    members-rows (t ▹ ts) o = joined_same o (order-rows t) (members-rows ts o)
