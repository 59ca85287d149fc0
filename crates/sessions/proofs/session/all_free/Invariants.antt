-- Place by place.
use Rattle.std.proofs.Common.{◌≡◌, ◌&&◌, drop}
use Rattle.sessions.specs.Session.{all_free}
use Rattle.sessions.proofs.session.all_free.Given as goal

abbrev pub invariant-loop-place : goal.invariant-loop-place
invariant-loop-place l = all_free l.places ≡ (l.free && all_free (drop l.place-index l.places))
