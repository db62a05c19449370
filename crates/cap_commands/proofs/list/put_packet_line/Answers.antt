use Rattle.std.proofs.Common.{◌≡◌, List, ℕ, ◌∙◌, take, ap, subst}
use Rattle.cap_bytes.specs.Device.{Puts}
use Rattle.cap_print.specs.Facts.{line_in}
use Rattle.cap_talks.specs.table.Descriptions.{describe_for, description_fields}
use Rattle.cap_commands.proofs.Pieces.{min-taken}
use Rattle.cap_commands.specs.ListText.{facts_before, facts_showing}
use Rattle.cap_commands.proofs.list.put_packet_line.Goals as goal

pub returns-then-options-clause-bytes : goal.returns-then-options-clause-bytes
returns-then-options-clause-bytes g c = λ t.
    let a = c.args in
    let fields = description_fields (describe_for a.options.ipv6 a.meta.now a.bytes.now) in
    let line = λ (shown : List ℕ). line_in a.options.form (facts_before fields a.n a.meta.now shown) in
    let shown_is : c.split_at.result.0.now ≡ take a.options.most a.bytes.now =
    c.split_at.ensures.front ∙ (ap (λ m. take m a.bytes.now) c.min.ensures ∙ min-taken a.options.most a.bytes.now) in
    rw c.if-options.true
    (subst (Puts (g.W.Sink.held a.writer.now) c.put_classed_packet.result
    (g.W.Sink.held c.put_classed_packet.new.writer)) (ap line shown_is) (c.put_classed_packet.ensures.bytes t))

pub returns-clause-bytes : goal.returns-clause-bytes
returns-clause-bytes g c = λ t.
    let a = c.args in
    let line = λ (shown : List ℕ). line_in a.options.form (facts_showing a.n a.meta.now shown) in
    let shown_is : c.split_at.result.0.now ≡ take a.options.most a.bytes.now =
    c.split_at.ensures.front ∙ (ap (λ m. take m a.bytes.now) c.min.ensures ∙ min-taken a.options.most a.bytes.now) in
    let line_is : c.as_slice.result.now ≡ line (take a.options.most a.bytes.now) =
    c.as_slice.ensures.value ∙ (c.write_packet.ensures ∙ ap line shown_is) in
    rw c.if-options.false
    (subst (Puts (g.W.Sink.held a.writer.now) c.put_all.result (g.W.Sink.held c.put_all.new.writer)) line_is
    (c.put_all.ensures.bytes t))

pub returns-then-shown-gt-MOST_SHOWN-clause-bytes : goal.returns-then-shown-gt-MOST_SHOWN-clause-bytes
returns-then-shown-gt-MOST_SHOWN-clause-bytes g c = λ t.
    let a = c.args in
    let line = λ (shown : List ℕ). line_in a.options.form (facts_showing a.n a.meta.now shown) in
    let shown_is : c.split_at.result.0.now ≡ take a.options.most a.bytes.now =
    c.split_at.ensures.front ∙ (ap (λ m. take m a.bytes.now) c.min.ensures ∙ min-taken a.options.most a.bytes.now) in
    rw c.if-options.false
    (subst (Puts (g.W.Sink.held a.writer.now) c.put_long_packet.result (g.W.Sink.held c.put_long_packet.new.writer))
    (ap line shown_is) (c.put_long_packet.ensures.bytes t))
