use Rattle.std.proofs.Common.{◌∷◌, drop, length, List, Option, Err, inr, sym, ap, ◌∙◌, subst, arith, refl}
use Rattle.std.proofs.lemmas.Result.{err_from_is_err_and}
use Rattle.cap_source.proofs.Onward.{Keeps-trans}
use Rattle.cap_merge.specs.inner.MergedLaws.{merged-is-feed}
use Rattle.cap_merge.specs.Parts.{merged_feed}
use Rattle.cap_merge.specs.inner.View.{parts_of}
use Rattle.cap_source.specs.declared.feeds.FeedHeld.{FeedHeld}
use Rattle.cap_class.specs.Taken.{taken}
use Rattle.cap_talks.specs.inner.table.Stepping.{next_taken, clocked}
use Rattle.cap_class.specs.Taken.{Taken}
use Rattle.cap_talks.specs.inner.table.Tallies.{LimitBy, TallyStands}
use Rattle.cap_talks.specs.table.CountedUnits.{is_limit_for}
use Rattle.cap_talks.proofs.Stepping.{known-packet, known-end, faulted, stands-asked, next-is, first-asked, run-packet}
use Rattle.cap_talks.proofs.Stepping.{run-end, of-file, is-left, found-packet, again-packet, again-end, again-fault}
use Rattle.cap_talks.proofs.Stepping.{stayed, went}
use Rattle.cap_merge.proofs.Numbers.{numbers-within}
use Rattle.cap_talks.proofs.table.tables.Table.step.Goals as goal

pub returns-in_err-peek-clause-step : goal.returns-in_err-peek-clause-step
returns-in_err-peek-clause-step g c =
    let m = c.peek.new.self in
    let p = parts_of c.args.self.now.merged in
    let q = parts_of m in
    let law = merged-is-feed m g.met.F.PacketFeed.lawful in
    let e = c.in_err-peek.ensures in
    let t = c.args.self.now in
    let is = err_from_is_err_and c.from_residual.result c.from_residual.ensures.1 in
    rw (is.1, is.2) (faulted t.totals t.tally t.done p q c.in_err-peek.field-0.0 law e.keeps e.answer e.items
    e.asks e.run)

pub returns-then-not-branch-clause-step : goal.returns-then-not-branch-clause-step
returns-then-not-branch-clause-step g c =
    let m = c.peek.new.self in
    let p = parts_of c.args.self.now.merged in
    let q = parts_of m in
    let e = c.in_ok-peek.ensures in
    let known = known-end (merged_feed p) (merged_feed q) c.in_ok-peek.field-0 c.if-not-branch.true e.answer in
    let law = merged-is-feed m g.met.F.PacketFeed.lawful in
    record {
      known = known.known;
      run = λ t. sym (e.run t) ∙ run-end q law (e.keeps.told t) known.known;
      same = λ t. record { run = e.run t; endings = (e.items t).endings };
      stands = λ xs h. record { totals = h.totals; tally = stands-asked c.args.self.now.tally p q xs e.asks h.tally };
      done = refl;
      goes = known.goes;
    }

-- the packet is of one of the files
pub take-requires-in-Ok-clause-first : goal.take-requires-in-Ok-clause-first
take-requires-in-Ok-clause-first g c =
    let m = c.peek.new.self in
    let p = parts_of c.args.self.now.merged in
    let q = parts_of m in
    let e = c.in_ok-peek.ensures in
    let meta = c.next_packet-packet.result.meta.now in
    let known = known-packet (merged_feed p) (merged_feed q) c.in_ok-peek.field-0 meta c.if-not-branch.false
    e.answer
    c.next_packet-packet.ensures.packet in
    let law = merged-is-feed m g.met.F.PacketFeed.lawful in
    let t = c.args.self.now in
    (numbers-within 1 (length t.totals.files) meta.file
    (of-file (merged_feed q) meta (length t.totals.files) law known.known (e.keeps.files ∙ t.numbered))).0

pub take-requires-in-Ok-clause-last : goal.take-requires-in-Ok-clause-last
take-requires-in-Ok-clause-last g c =
    let m = c.peek.new.self in
    let p = parts_of c.args.self.now.merged in
    let q = parts_of m in
    let e = c.in_ok-peek.ensures in
    let meta = c.next_packet-packet.result.meta.now in
    let known = known-packet (merged_feed p) (merged_feed q) c.in_ok-peek.field-0 meta c.if-not-branch.false
    e.answer
    c.next_packet-packet.ensures.packet in
    let law = merged-is-feed m g.met.F.PacketFeed.lawful in
    let t = c.args.self.now in
    omega (
      arith,
      (numbers-within 1 (length t.totals.files) meta.file
          (of-file (merged_feed q) meta (length t.totals.files) law known.known (e.keeps.files ∙ t.numbered))).1,
    )

pub take-requires-in-Ok-clause-few : goal.take-requires-in-Ok-clause-few
take-requires-in-Ok-clause-few g c =
    let m = c.peek.new.self in
    let p = parts_of c.args.self.now.merged in
    let q = parts_of m in
    let e = c.in_ok-peek.ensures in
    let meta = c.next_packet-packet.result.meta.now in
    let known = known-packet (merged_feed p) (merged_feed q) c.in_ok-peek.field-0 meta c.if-not-branch.false
    e.answer
    c.next_packet-packet.ensures.packet in
    let law = merged-is-feed m g.met.F.PacketFeed.lawful in
    let t = c.args.self.now in
    omega (arith, t.counted, t.places, e.keeps.left, is-left (merged_feed q) meta law known.known)

pub returns-in-Ok-clause-step : goal.returns-in-Ok-clause-step
returns-in-Ok-clause-step g c =
    let m = c.peek.new.self in
    let p = parts_of c.args.self.now.merged in
    let q = parts_of m in
    let e = c.in_ok-peek.ensures in
    let meta = c.next_packet-packet.result.meta.now in
    let known = known-packet (merged_feed p) (merged_feed q) c.in_ok-peek.field-0 meta c.if-not-branch.false
    e.answer
    c.next_packet-packet.ensures.packet in
    let law = merged-is-feed m g.met.F.PacketFeed.lawful in
    let x = taken c.next_packet-packet.result.clock.now meta c.next_packet-packet.result.frame.now in
    let next = next-is q meta c.next_packet-packet.result.clock.now c.next_packet-packet.result.frame.now known.known
    c.next_packet-packet.ensures.clock c.next_packet-packet.ensures.frame in
    let after = parts_of c.pass.new.self in
    record {
      item = x;
      first = first-asked p q x e.asks next;
      left = omega (arith, c.pass.ensures.passes.left, e.keeps.left);
      run = λ t.
          let told = e.keeps.told t in
          let first = run-packet p q meta c.next_packet-packet.result.clock.now c.next_packet-packet.result.frame.now
          law told known.known c.next_packet-packet.ensures.frame (c.next_packet-packet.ensures.run told)
          (e.run t) in
          first ∙ ap (λ l. clocked x ∷ l) (sym (c.pass.ensures.run told ∙ ap (drop 1) (e.run t)));
      goes = record {
        before = known.goes.before;
        after = c.pass.ensures.passes.broken;
        failed = ap (λ (h : FeedHeld). h.failed) c.pass.ensures.passes.held ∙ known.goes.failed;
      };
      endings = λ t file. c.pass.ensures.passes.endings (e.keeps.told t) file ∙ (e.items t).endings file;
      stands = λ xs h.
          let asked = stands-asked c.args.self.now.tally p q xs e.asks h.tally in
          let now = subst (λ (n : Option Taken). TallyStands c.args.self.now.tally xs n) next asked in
          let took = c.in-Ok.ensures.stands xs now in (
            took.0,
            record {
              totals = c.take-in-Ok.ensures.stands c.next_packet-packet.result.clock.now xs h.totals;
              tally = took.1 (next_taken after);
            },
          );
      going = refl;
    }

pub returns-in-Err-Limit-clause-step : goal.returns-in-Err-Limit-clause-step
returns-in-Err-Limit-clause-step g c =
    let m = c.peek.new.self in
    let p = parts_of c.args.self.now.merged in
    let q = parts_of m in
    let e = c.in_ok-peek.ensures in
    let meta = c.next_packet-packet.result.meta.now in
    let known = known-packet (merged_feed p) (merged_feed q) c.in_ok-peek.field-0 meta c.if-not-branch.false
    e.answer
    c.next_packet-packet.ensures.packet in
    let law = merged-is-feed m g.met.F.PacketFeed.lawful in
    let x = taken c.next_packet-packet.result.clock.now meta c.next_packet-packet.result.frame.now in
    let next = next-is q meta c.next_packet-packet.result.clock.now c.next_packet-packet.result.frame.now known.known
    c.next_packet-packet.ensures.clock c.next_packet-packet.ensures.frame in
    let now = λ (xs : List Taken) (h : TallyStands c.args.self.now.tally xs (next_taken p)).
    subst (λ (n : Option Taken). TallyStands c.args.self.now.tally xs n) next
    (stands-asked c.args.self.now.tally p q xs e.asks h) in
    inr (record {
      item = x;
      is = c.talk_limit.ensures;
      first = first-asked p q x e.asks next;
      next = next;
      run = λ t.
          run-packet p q meta c.next_packet-packet.result.clock.now c.next_packet-packet.result.frame.now law
          (e.keeps.told t) known.known c.next_packet-packet.ensures.frame
          (c.next_packet-packet.ensures.run (e.keeps.told t)) (e.run t);
      same = λ t. record { run = e.run t; endings = (e.items t).endings };
      goes = known.goes;
      limit = λ xs h. subst (λ f. LimitBy (Err f) (is_limit_for c.args.self.now.tally.reads xs x))
          c.in-Err-Limit.field-0-is
          (c.in-Err-Limit.ensures.limit xs (now xs h.tally));
      stays = record {
        stands = λ xs h. record {
          totals = h.totals;
          tally = subst (λ (n : Option Taken). TallyStands c.take.new.self xs n) (sym next)
              (c.in-Err-Limit.ensures.err xs (now xs h.tally));
        };
        going = refl;
      };
    })

pub returns-in-Err-Memory-clause-step : goal.returns-in-Err-Memory-clause-step
returns-in-Err-Memory-clause-step g c =
    let m = c.peek.new.self in
    let p = parts_of c.args.self.now.merged in
    let q = parts_of m in
    let e = c.in_ok-peek.ensures in
    let meta = c.next_packet-packet.result.meta.now in
    let known = known-packet (merged_feed p) (merged_feed q) c.in_ok-peek.field-0 meta c.if-not-branch.false
    e.answer
    c.next_packet-packet.ensures.packet in
    let law = merged-is-feed m g.met.F.PacketFeed.lawful in
    let x = taken c.next_packet-packet.result.clock.now meta c.next_packet-packet.result.frame.now in
    let next = next-is q meta c.next_packet-packet.result.clock.now c.next_packet-packet.result.frame.now known.known
    c.next_packet-packet.ensures.clock c.next_packet-packet.ensures.frame in
    let now = λ (xs : List Taken) (h : TallyStands c.args.self.now.tally xs (next_taken p)).
    subst (λ (n : Option Taken). TallyStands c.args.self.now.tally xs n) next
    (stands-asked c.args.self.now.tally p q xs e.asks h) in
    record {
      cause = inr (record { item = x; next = next; kept = λ xs h. c.in-Err-Memory.ensures.grows xs (now xs h.tally) });
      same = λ t. record { run = e.run t; endings = (e.items t).endings };
      goes = known.goes;
      stays = record {
        stands = λ xs h.
            let asked = stands-asked c.args.self.now.tally p q xs e.asks h.tally in
            let now = subst (λ (n : Option Taken). TallyStands c.args.self.now.tally xs n) next asked in
            record {
              totals = h.totals;
              tally = subst (λ (n : Option Taken). TallyStands c.take.new.self xs n) (sym next)
                  (c.in-Err-Memory.ensures.err xs now);
            };
        going = refl;
      };
    }

-- what every answer keeps, and what it says again

pub returns-in_err-peek-clause-keeps : goal.returns-in_err-peek-clause-keeps
returns-in_err-peek-clause-keeps g c =
    let e = c.in_err-peek.ensures in
    record { keeps = e.keeps; places = stayed _ _ _ _ refl e.keeps.left; files = refl; reads = refl }

pub returns-in_err-peek-clause-again : goal.returns-in_err-peek-clause-again
returns-in_err-peek-clause-again g c =
    let is = err_from_is_err_and c.from_residual.result c.from_residual.ensures.1 in
    rw (is.1, is.2) (again-fault _ _ _ c.in_err-peek.ensures.answer)

pub returns-then-not-branch-clause-keeps : goal.returns-then-not-branch-clause-keeps
returns-then-not-branch-clause-keeps g c =
    let e = c.in_ok-peek.ensures in
    record { keeps = e.keeps; places = stayed _ _ _ _ refl e.keeps.left; files = refl; reads = refl }

pub returns-then-not-branch-clause-again : goal.returns-then-not-branch-clause-again
returns-then-not-branch-clause-again g c =
    again-end _ _ (known-end _ _ _ c.if-not-branch.true c.in_ok-peek.ensures.answer)

pub next_packet-packet-requires : goal.next_packet-packet-requires
next_packet-packet-requires g c =
    found-packet _ _ _ c.if-not-branch.false c.in_ok-peek.ensures.answer

pub pass-requires : goal.pass-requires
pass-requires g c =
    record { packet = found-packet _ _ _ c.if-not-branch.false c.in_ok-peek.ensures.answer }

pub returns-in-Ok-clause-keeps : goal.returns-in-Ok-clause-keeps
returns-in-Ok-clause-keeps g c =
    let e = c.in_ok-peek.ensures in
    record {
      keeps = Keeps-trans _ _ _ e.keeps c.pass.ensures.keeps;
      places = went _ _ _ _ _ c.in-Ok.ensures.place e.keeps.left c.pass.ensures.passes.left;
      files = c.take-in-Ok.ensures.files;
      reads = c.in-Ok.ensures.reads;
    }

pub returns-in-Ok-clause-again : goal.returns-in-Ok-clause-again
returns-in-Ok-clause-again g c =
    again-packet _ _ _ _ c.if-not-branch.false c.in_ok-peek.ensures.answer

pub returns-in-Err-Limit-clause-keeps : goal.returns-in-Err-Limit-clause-keeps
returns-in-Err-Limit-clause-keeps g c =
    let e = c.in_ok-peek.ensures in
    record {
      keeps = e.keeps;
      places = stayed _ _ _ _ c.in-Err-Limit.ensures.same e.keeps.left;
      files = refl;
      reads = c.in-Err-Limit.ensures.reads;
    }

pub returns-in-Err-Limit-clause-again : goal.returns-in-Err-Limit-clause-again
returns-in-Err-Limit-clause-again g c =
    again-packet _ _ _ _ c.if-not-branch.false c.in_ok-peek.ensures.answer

pub returns-in-Err-Memory-clause-keeps : goal.returns-in-Err-Memory-clause-keeps
returns-in-Err-Memory-clause-keeps g c =
    let e = c.in_ok-peek.ensures in
    record {
      keeps = e.keeps;
      places = stayed _ _ _ _ c.in-Err-Memory.ensures.same e.keeps.left;
      files = refl;
      reads = c.in-Err-Memory.ensures.reads;
    }

pub returns-in-Err-Memory-clause-again : goal.returns-in-Err-Memory-clause-again
returns-in-Err-Memory-clause-again g c =
    again-packet _ _ _ _ c.if-not-branch.false c.in_ok-peek.ensures.answer
