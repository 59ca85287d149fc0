-- Members are put in order: to order them again changes nothing, and a neat tree stays neat.
use mathlib.Core.{Path.◌≡◌, Path.refl, Path.sym, Path.ap, Path.ap₂, Path.◌∙◌, Bool.true}
use Rattle.fields.specs.Tests.{by-test}
use Rattle.model.specs.declared.rule.Sign.{Sign}
use Rattle.model.specs.declared.rule.Sign.TheVariants.{None, Sequence, Choice, Interleaving}
use Rattle.model.specs.Tree.{Node, leaf, group, marked, Members, none, ◌▹◌}
use Rattle.model.specs.Syntax.{Spelling, Syntax}
use Rattle.canonical.specs.Neat.{Stays, NeatNode, Neat, NeatAll, BeforeFirst, Rising, InTurn, OrderedNode, Ordered, OrderedAll}
use Rattle.canonical.specs.Order.{not_after, smallest_name, insert, sort, arrange, order_node, order, order_all, Smallest.not-after-other}
use Rattle.canonical.specs.Order.Kept.{order-smallest, order-nullable, order-size, arrange-all}

insert-before : (u t : Syntax) (ts : Members Spelling) → not_after (smallest_name u) (smallest_name t) ≡ true → BeforeFirst u ts → BeforeFirst u (insert t ts)
insert-before u t none e h = e
insert-before u t (v ▹ ts) e h = by-test (not_after (smallest_name t) (smallest_name v)) (λ f. rw f e) (λ f. rw f h)

insert-rising : (t : Syntax) (ts : Members Spelling) → Rising ts → Rising (insert t ts)
insert-rising t none h = (tt, tt)
insert-rising t (u ▹ us) h =
    by-test (not_after (smallest_name t) (smallest_name u))
    (λ e. rw e (e, h))
    (λ e. rw e (insert-before u t us (not-after-other (smallest_name t) (smallest_name u) e) h.0, insert-rising t us h.1))

pub sort-rising : (ts : Members Spelling) → Rising (sort ts)
sort-rising none = tt
sort-rising (t ▹ ts) = insert-rising t (sort ts) (sort-rising ts)

insert-same : (t : Syntax) (ts : Members Spelling) → BeforeFirst t ts → insert t ts ≡ t ▹ ts
insert-same t none h = refl
insert-same t (u ▹ us) h = rw h refl

pub sort-same : (ts : Members Spelling) → Rising ts → sort ts ≡ ts
sort-same none h = refl
sort-same (t ▹ ts) h = rw (sort-same ts h.1) (insert-same t ts h.0)

pub arrange-twice : (s : Sign) (ts : Members Spelling) → arrange s (arrange s ts) ≡ arrange s ts
arrange-twice None ts = refl
arrange-twice Sequence ts = refl
arrange-twice Choice ts = sort-same (sort ts) (sort-rising ts)
arrange-twice Interleaving ts = sort-same (sort ts) (sort-rising ts)

-- to order within the members, and to order the members
insert-order : (t : Syntax) (ts : Members Spelling) → insert (order t) (order_all ts) ≡ order_all (insert t ts)
insert-order t none = refl
insert-order t (u ▹ us) =
    rw (order-smallest t, order-smallest u) (by-test (not_after (smallest_name t) (smallest_name u))
    (λ e. rw e refl)
    (λ e. rw e (ap (λ (ts : Members Spelling). order u ▹ ts) (insert-order t us))))

sort-order : (ts : Members Spelling) → sort (order_all ts) ≡ order_all (sort ts)
sort-order none = refl
sort-order (t ▹ ts) = ap (insert (order t)) (sort-order ts) ∙ insert-order t (sort ts)

pub arrange-order : (s : Sign) (ts : Members Spelling) → arrange s (order_all ts) ≡ order_all (arrange s ts)
arrange-order None ts = refl
arrange-order Sequence ts = refl
arrange-order Choice ts = sort-order ts
arrange-order Interleaving ts = sort-order ts

mutual
  node-twice : (n : Node Spelling) → order_node (order_node n) ≡ order_node n
  node-twice (leaf a) = refl
  node-twice (group s ts) =
      ap {B = Node Spelling} (λ us. group s us)
      (ap (arrange s) (sym (arrange-order s (order_all ts)) ∙ ap (arrange s) (all-twice ts)) ∙ arrange-twice s (order_all ts))

  pub order-twice : (t : Syntax) → order (order t) ≡ order t
  order-twice (marked m n) = ap (λ (k : Node Spelling). marked m k) (node-twice n)

  all-twice : (ts : Members Spelling) → order_all (order_all ts) ≡ order_all ts
  all-twice none = refl
  all-twice (t ▹ ts) = ap₂ {C = Members Spelling} (λ u us. u ▹ us) (order-twice t) (all-twice ts)

order-stays : (s : Sign) (t : Syntax) → Stays s t → Stays s (order t)
order-stays s (marked m (leaf a)) h = h
order-stays s (marked m (group r ts)) h = (h.0, rw (order-nullable (group r ts)) h.1)

mutual
  node-neat : (n : Node Spelling) → NeatNode n → NeatNode (order_node n)
  node-neat (leaf a) h = h
  node-neat (group s ts) h = (
    rw (order-size s ts) h.0,
    arrange-all (λ us. NeatAll us s) (λ t. Neat t × Stays s t) (λ t us k. ((k.0, k.1), k.2)) (λ t us k l. (k.0, k.1, l)) s (order_all ts)
        (all-neat ts s h.1),
  )

  pub order-neat : (t : Syntax) → Neat t → Neat (order t)
  order-neat (marked m n) h = (rw (order-nullable n) h.0, node-neat n h.1)

  all-neat : (ts : Members Spelling) (s : Sign) → NeatAll ts s → NeatAll (order_all ts) s
  all-neat none s h = tt
  all-neat (t ▹ ts) s h = (order-neat t h.0, order-stays s t h.1, all-neat ts s h.2)

turn-arranged : (s : Sign) (ts : Members Spelling) → InTurn s (arrange s ts)
turn-arranged None ts = tt
turn-arranged Sequence ts = tt
turn-arranged Choice ts = sort-rising ts
turn-arranged Interleaving ts = sort-rising ts

mutual
  node-ordered : (n : Node Spelling) → OrderedNode (order_node n)
  node-ordered (leaf a) = tt
  node-ordered (group s ts) = (
    turn-arranged s (order_all ts),
    arrange-all OrderedAll Ordered (λ t us h. h) (λ t us h k. (h, k)) s (order_all ts) (all-ordered ts),
  )

  pub order-ordered : (t : Syntax) → Ordered (order t)
  order-ordered (marked m n) = node-ordered n

  all-ordered : (ts : Members Spelling) → OrderedAll (order_all ts)
  all-ordered none = tt
  all-ordered (t ▹ ts) = (order-ordered t, all-ordered ts)
