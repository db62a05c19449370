use Rattle.std.proofs.Common.{◌≡◌, ℕ, Option, Some, None, ◌≤◌, length, arith, take, sym, ◌∙◌, subst, ap, refl}
use Rattle.std.proofs.Common.{take-take, length-take}
use Rattle.std.specs.Option.{unwrap_or}
use Rattle.cap_join.specs.inner.Groups.{GroupState, IsGroupOf}
use Rattle.cap_join.proofs.Grouping.{IsDatagramOf-group, total-held}
use Rattle.cap_join.specs.inner.GroupView.{group_view}
use Rattle.cap_join.proofs.groups.Group.into_datagram.Goals as goal

or_held : (o : Option ℕ) (held most : ℕ) → ((n : ℕ) → o ≡ Some n → n ≤ most) → held ≤ most → unwrap_or o held ≤ most
or_held None held most h le = le
or_held (Some n) held most h le = h n refl

pub payload_of-payload-requires : goal.payload_of-payload-requires
payload_of-payload-requires c =
    let s = group_view c.self.inside in
    omega (
      arith,
      c.unwrap_or.ensures,
      c.self.invariant.held,
      or_held c.self.inside.total c.self.inside.part.held (length s.buffer)
          (λ n is. total-held s c.self.invariant.sound.pieces n c.self.invariant.sound.group is)
          (omega (arith, c.self.invariant.held, length-take c.self.inside.part.held c.self.inside.buffer.items)),
      length-take c.self.inside.part.held c.self.inside.buffer.items,
    )

pub returns-clause-datagram : goal.returns-clause-datagram
returns-clause-datagram c = λ ps group done.
    let g = subst (λ (s : GroupState). IsGroupOf s ps) (sym c.self.view_is) group in
    let s = group_view c.self.inside in
    IsDatagramOf-group s _ ps g done refl
    (λ n total.
    let same : c.unwrap_or.result ≡ n = grind (arith, c.unwrap_or.ensures) in
    let short : n ≤ c.self.inside.part.held = omega
    (arith, total-held s ps n g total, length-take c.self.inside.part.held c.self.inside.buffer.items) in
    c.payload_of-payload.ensures.payload ∙ ap (λ (k : ℕ). take k c.self.inside.buffer.items) same
    ∙ sym (take-take n c.self.inside.part.held c.self.inside.buffer.items short))
    refl refl refl refl
