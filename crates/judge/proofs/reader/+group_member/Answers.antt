-- Each return is one case of `Reading.Group`.
use Rattle.std.proofs.Common.{◌≡◌, false, sym, ◌∙◌, arith}
use Prim.Native.Char.{code}
use Rattle.model.specs.Fault.{is}
use Rattle.std.proofs.lemmas.Result.{err_from_is_err_and}
use Rattle.judge.specs.Reading.Group.{member-bad, many-groups, many-brackets, group-opening, goes_in, members-fit, group_empty, group-stops}
use Rattle.judge.specs.Reading.Group.{members-low, group-ends, group-bad, group-joins, group-member, empty-marked}
use Rattle.judge.proofs.reader.+group_member.Goals as goal
use Rattle.judge.proofs.reader.+group_member.Goals.{member-else-past-c-via-then-past-c+else-stands, member-else-past-c-via-else-past-c}

pub group-returns-then-stands : goal.group-returns-then-stands
group-returns-then-stands t c = rw c.on.ensures (group_empty c.requires (sym c.stands.ensures ∙ c.if-stands.true))

pub group-returns-in_err-past : goal.group-returns-in_err-past
group-returns-in_err-past t c =
    let p = err_from_is_err_and c.from_residual.result c.from_residual.ensures.1 in
    rw (p.1, p.2) c.in_err-past.ensures

pub group-returns-then-p-text : goal.group-returns-then-p-text
group-returns-then-p-text t c = rw c.new.ensures (group-stops c.loop-past.invariant c.in_ok-past.ensures c.if-p-text.true)

pub group-overflow_add-members : goal.group-overflow_add-members
group-overflow_add-members t c = omega (arith, members-fit c.loop-past.invariant)

pub group-height_over-requires : goal.group-height_over-requires
group-height_over-requires t c = rw c.max-height.ensures (members-low c.loop-past.invariant c.in_ok-past.ensures)

pub group-returns-then-b-eq41 : goal.group-returns-then-b-eq41
group-returns-then-b-eq41 t c =
    rw c.on-then-b-eq41.ensures
    (group-ends c.loop-past.invariant c.in_ok-past.ensures c.if-p-text.false c.if-b-eq41.true _ c.packed_group.ensures
    (rw (← c.max-height.ensures) c.height_over.ensures))

pub group-returns-then-not-parts : goal.group-returns-then-not-parts
group-returns-then-not-parts t c =
    rw c.new-then-not-parts.ensures
    (group-bad c.loop-past.invariant c.in_ok-past.ensures c.if-p-text.false c.if-b-eq41.false (sym c.parts.ensures ∙ c.if-not-parts.true))

pub group-loop-past-preserved : goal.group-loop-past-preserved
group-loop-past-preserved t c =
    rw (c.on-next.ensures, c.max-height.ensures)
    (group-joins c.loop-past.invariant c.in_ok-past.ensures c.if-p-text.false c.if-b-eq41.false (sym c.parts.ensures ∙ c.if-not-parts.false))

pub member-returns-then-not-stands : goal.member-returns-then-not-stands
member-returns-then-not-stands t c =
    rw c.new.ensures
    (member-bad c.requires (sym c.name_begins.ensures ∙ c.if-name_begins.false) (sym c.stands.ensures ∙ c.if-not-stands.true))

pub member-returns-then-node-eq-MAX_NODES : goal.member-returns-then-node-eq-MAX_NODES
member-returns-then-node-eq-MAX_NODES t c =
    rw c.new-then-node-eq-MAX_NODES.ensures (many-groups c.requires (sym c.stands.ensures ∙ c.if-not-stands.false) c.if-node-eq-MAX_NODES.true)

pub member-returns-then-left-eq0 : goal.member-returns-then-left-eq0
member-returns-then-left-eq0 t c =
    rw c.new-then-left-eq0.ensures
    (many-brackets c.requires (sym c.stands.ensures ∙ c.if-not-stands.false) c.if-node-eq-MAX_NODES.false c.if-left-eq0.true)

pub member-group-requires : goal.member-group-requires
member-group-requires t c =
    let o = group-opening c.requires (sym c.stands.ensures ∙ c.if-not-stands.false) c.if-node-eq-MAX_NODES.false c.if-left-eq0.false in
    rw c.inside.ensures (omega (arith, c.decreases, o.inside), goes_in c.requires o)

pub member-returns-in_err-past : goal.member-returns-in_err-past
member-returns-in_err-past t c =
    let p = err_from_is_err_and c.from_residual.result c.from_residual.ensures.1 in
    rw (p.1, p.2) c.in_err-past.ensures

pub member-returns-then-stands : goal.member-returns-then-stands
member-returns-then-stands t c =
    let o = group-opening c.requires (sym c.stands.ensures ∙ c.if-not-stands.false) c.if-node-eq-MAX_NODES.false c.if-left-eq0.false in
    rw c.new-then-stands.ensures
    (empty-marked c.requires o (rw c.inside.ensures at c.in_ok-past.ensures) c.if-past-c.true (sym c.stands-then-past-c.ensures ∙ c.if-stands.true))

pub member-returns : goal.member-returns
member-returns t c =
    let o = group-opening c.requires (sym c.stands.ensures ∙ c.if-not-stands.false) c.if-node-eq-MAX_NODES.false c.if-left-eq0.false in
    -- it has a name, or no `!` behind it
    let fits : c.in_ok-past.past.names ≡ c.args.c.names → is c.args.text.now (code "!") c.in_ok-past.past.at ≡ false =
    λ z. elim c.else-past-c.branch [
      | member-else-past-c-via-then-past-c+else-stands w ↦ sym w.stands-then-past-c.ensures ∙ w.if-stands.false
      | member-else-past-c-via-else-past-c w ↦ absurd (w.if-past-c.false z)
    ] in
    group-member c.requires o (rw c.inside.ensures at c.in_ok-past.ensures) fits c.mark.ensures
