use Rattle.std.proofs.Common.{ap, ◌∙◌, arith}
use Rattle.cap_class.specs.Ipv6.{read_in}
use Rattle.cap_class.specs.Runs.{taken_of}
use Rattle.cap_talks.specs.inner.table.Tallies.{TallyState}
use Rattle.cap_talks.specs.inner.table.TallyView.{tally_view}
use Rattle.cap_talks.proofs.Exits.{sum-taken, looks-plain, sound-plain}
use Rattle.cap_talks.proofs.table.tallies.Tally.count_plain.Goals as goal

pub with_frames-self-inside-requires : goal.with_frames-self-inside-requires
with_frames-self-inside-requires c =
    let t = tally_view c.self.inside in
    let s = c.self.invariant in
    record {
      few = omega (
        arith,
        sum-taken t s.taken s.next s.stands,
        c.requires.few,
        ap (λ (n : TallyState). n.place) c.self.view_is,
      );
    }

pub invariant_of-self : goal.invariant_of-self
invariant_of-self c =
    let t = tally_view c.self.inside in
    let x = taken_of c.args.packet in
    sound-plain t x (ap (λ (n : TallyState). n.waiting) c.self.view_is ∙ c.requires.none) c.self.invariant
    (omega (arith, c.requires.few, ap (λ (n : TallyState). n.place) c.self.view_is)) c.args.class
    c.requires.classify (ap (λ (n : TallyState). read_in n.reads x) c.self.view_is ∙ c.requires.unread) _
    c.with_frames-self-inside.ensures

pub returns-clause-looks : goal.returns-clause-looks
returns-clause-looks c =
    let t = tally_view c.self.inside in
    let x = taken_of c.args.packet in
    rw (← c.self.view_is)
    (looks-plain t x (ap (λ (n : TallyState). n.waiting) c.self.view_is ∙ c.requires.none) c.args.class
    c.requires.classify (ap (λ (n : TallyState). read_in n.reads x) c.self.view_is ∙ c.requires.unread) _
    c.with_frames-self-inside.ensures)
