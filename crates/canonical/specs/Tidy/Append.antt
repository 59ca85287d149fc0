-- Members behind members, tidied.
use mathlib.Core.{Path.◌≡◌, Path.refl, Path.sym, Path.ap, List.List, List.[], List.◌∷◌, List.◌++◌}
use Rattle.std.specs.Prelude.{◌&&◌, ◌||◌}
use Rattle.std.proofs.Math.Bool.{or_assoc, and_assoc}
use Rattle.model.specs.Tree.{Members, none, ◌▹◌}
use Rattle.model.specs.{Syntax.Spelling, Syntax.Syntax, Flatten.◌⧺◌}
use Rattle.canonical.specs.Tidy.{tree_nullable, some_nullable, all_nullable, any_nullable, tidy, tidy_all}

pub tidy-append : (ts us : Members Spelling) → tidy_all (ts ⧺ us) ≡ tidy_all ts ++ tidy_all us
tidy-append none us = refl
tidy-append (t ▹ ts) us = ap (λ (l : List Syntax). tidy t ∷ l) (tidy-append ts us)

pub any_append : (k l : List Syntax) → any_nullable (k ++ l) ≡ any_nullable k || any_nullable l
any_append [] l = refl
any_append (t ∷ k) l = rw (any_append k l) (sym (or_assoc (tree_nullable t) (any_nullable k) (any_nullable l)))

pub some-append : (ts us : Members Spelling) → some_nullable (ts ⧺ us) ≡ some_nullable ts || some_nullable us
some-append none us = refl
some-append (t ▹ ts) us = rw (some-append ts us) (sym (or_assoc (tree_nullable t) (some_nullable ts) (some_nullable us)))

pub all_append : (ts us : Members Spelling) → all_nullable (ts ⧺ us) ≡ all_nullable ts && all_nullable us
all_append none us = refl
all_append (t ▹ ts) us = rw (all_append ts us) (sym (and_assoc (tree_nullable t) (all_nullable ts) (all_nullable us)))
