-- The members of a group as a list of places on the stack, the last member first.
pub mod Laws
pub mod Narrow
pub mod Listing
use mathlib.Core.{Path.◌≡◌, Logic.◌⊎◌, Bool.Bool, Bool.true, Bool.false, Bool.not, List.List, List.map}
use Rattle.std.specs.Prelude.{ℕ, suc, ◌+◌, ◌-◌, ◌≤◌, ◌<◌, length, take, drop, get_or}
use Rattle.fields.specs.{Bytes.Text, Limits.max_nodes, Put.Put}
use Rattle.model.specs.{Tree.Members, Tree.none, Tree.nodes, Flatten.nil, Syntax.Spelling, Syntax.Syntax, Syntax.text}
use Rattle.canonical.specs.{declared.head.Head.Head, Order.not_after, Order.smallest_name, Order.insert, Order.arrange, Order.order}
use Rattle.canonical.specs.Writer.{Head.no_head, Head.sign_of, Place.behind_name, Stack.turned, Stack.trees_on, Stack.HeadsFit}

-- the tree whose head stands at p
abbrev pub tree_at : Text → List Head → ℕ → Syntax
tree_at x stack p = get_or (trees_on x (drop p stack)) 0 nil

-- the head at p
abbrev pub head_at : List Head → ℕ → Head
head_at stack p = get_or stack p no_head

-- the trees at the places that a list holds from start to end, as members
abbrev pub trees_listed : Text → List Head → List ℕ → ℕ → ℕ → Members Spelling
trees_listed x stack list start end = turned (map (tree_at x stack) (drop start (take end list))) none

-- every place of the list is one of a head, from low on
abbrev pub Places : List ℕ → ℕ → ℕ → ℕ → Type 0
Places list start end low = (k : ℕ) → start ≤ k → k < end → (low ≤ get_or list k 0) × (get_or list k 0 < max_nodes)

-- the smallest name of the member at p is after that of the member at q
abbrev pub is_behind : Text → List Head → ℕ → ℕ → Bool
is_behind x stack p q = not (not_after (smallest_name (tree_at x stack p)) (smallest_name (tree_at x stack q)))

-- no member of the list is behind those that stand before it
abbrev pub Falling : Text → List Head → List ℕ → ℕ → ℕ → Type 0
Falling x stack list start end = (i j : ℕ) → start ≤ i → i ≤ j → j < end → is_behind x stack (get_or list j 0) (get_or list i 0) ≡ false

-- heads stand at both places, and the smallest name of the first ends at e
pub record TwoMembers (x : Text) (stack : List Head) (p e q : ℕ) : Type 0 where
  pub low : ℕ
  pub heads : HeadsFit x (drop low stack)
  pub entries : length stack ≡ max_nodes
  pub first : (low ≤ p) × (p < max_nodes)
  pub second : (low ≤ q) × (q < max_nodes)
  pub name-end : e ≡ behind_name x (head_at stack p).least

-- the member at m is behind those that are listed from high on, and not behind the one before low
pub record Narrowed (x : Text) (stack : List Head) (list : List ℕ) (start end m low high : ℕ) : Type 0 where
  pub inside : (start ≤ low) × (low ≤ high) × (high ≤ end)
  pub behind : (j : ℕ) → high ≤ j → j < end → is_behind x stack m (get_or list j 0) ≡ true
  pub stops : start < low → is_behind x stack m (get_or list (low - 1) 0) ≡ false

pub record InsertReady (x : Text) (stack : List Head) (list : List ℕ) (start end m : ℕ) : Type 0 where
  pub low : ℕ
  pub heads : HeadsFit x (drop low stack)
  pub entries : length stack ≡ max_nodes
  pub list_length : length list ≡ max_nodes
  pub range : (start ≤ end) × (end < max_nodes)
  pub places : Places list start end low
  pub place : (low ≤ m) × (m < max_nodes)
  pub falling : Falling x stack list start end

pub record Inserted (x : Text) (stack : List Head) (old new : List ℕ) (start end m : ℕ) : Type 0 where
  pub before : take start new ≡ take start old
  pub list_length : length new ≡ length old
  pub members_are : trees_listed x stack new start (suc end) ≡ insert (tree_at x stack m) (trees_listed x stack old start end)
  pub each : (k : ℕ) → start ≤ k → k < suc end → (get_or new k 0 ≡ m) ⊎ ((j : ℕ) × (start ≤ j) × (j < end) × (get_or new k 0 ≡ get_or old j 0))

-- the head at p is a group's, and the list has room for its members from start on
pub record MembersReady (x : Text) (stack : List Head) (list : List ℕ) (p start : ℕ) : Type 0 where
  pub heads : HeadsFit x (drop p stack)
  pub entries : length stack ≡ max_nodes
  pub list_length : length list ≡ max_nodes
  pub inside : p < max_nodes
  pub room : start + (head_at stack p).members ≤ max_nodes

pub record MembersListed (x : Text) (stack : List Head) (old new : List ℕ) (p start end : ℕ) : Type 0 where
  pub before : take start new ≡ take start old
  pub list_length : length new ≡ length old
  pub end_is : end ≡ start + (head_at stack p).members
  pub members_are : trees_listed x stack new start end
      ≡ arrange (sign_of (head_at stack p).shape) (turned (take (head_at stack p).members (trees_on x (drop (suc p) stack))) none)
  pub places : Places new start end (suc p)
  -- a member has fewer nodes than the group has places left beside the others
  pub few : (k : ℕ) → start ≤ k → k < end → nodes (tree_at x stack (get_or new k 0)) + (head_at stack p).members ≤ nodes (tree_at x stack p)

pub record PutReady (x : Text) (stack : List Head) (list buffer : List ℕ) (p start to : ℕ) : Type 0 where
  pub heads : HeadsFit x (drop p stack)
  pub entries : length stack ≡ max_nodes
  pub list_length : length list ≡ max_nodes
  pub inside : p < max_nodes
  pub room : start + nodes (tree_at x stack p) ≤ max_nodes
  pub fits : to + length (text (tree_at x stack p)) ≤ length buffer

pub record TreePut (x : Text) (stack : List Head) (old-list new-list old new : List ℕ) (p start to end : ℕ) : Type 0 where
  pub before : take start new-list ≡ take start old-list
  pub list_length : length new-list ≡ length old-list
  pub put : Put old new to (text (order (tree_at x stack p))) end
