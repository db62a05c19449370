use Rattle.cap_merge.proofs.Unread.{Fails-merged}
use Rattle.cap_merge.specs.inner.Readers.{reader_of}
use Rattle.cap_merge.specs.inner.View.{parts_of}
use Rattle.cap_talks.proofs.Headline.{cuts-files, networks-files, tells-files}
use Rattle.cap_talks.proofs.talks.reports.report_with.Goals as goal

pub returns-clause-text : goal.returns-clause-text
returns-clause-text g c = λ t w.
    let reader = reader_of g.R.Source.tells_coming g.R.Device.can_fail g.R.Source.coming in
    tells-files reader c.args.tail c.args.sources.items (parts_of c.in_ok-merged.merged) c.in_ok-merged.ensures.unread
    c.args.options.ipv6 c.args.options.form c.args.options.top (g.W.Sink.held c.args.writer.now)
    (g.W.Sink.held c.report_merged.new.writer)
    c.report_merged.result
    (λ told. c.report_merged.ensures.text told w) t

pub returns-clause-read : goal.returns-clause-read
returns-clause-read g c =
    let reader = reader_of g.R.Source.tells_coming g.R.Device.can_fail g.R.Source.coming in
    Fails-merged reader c.args.tail c.args.sources.items
    (parts_of c.in_ok-merged.merged) c.report_merged.ensures.walks.0 c.report_merged.result
    c.in_ok-merged.ensures.unread c.report_merged.ensures.walks.1

pub returns-clause-cuts : goal.returns-clause-cuts
returns-clause-cuts g c =
    let reader = reader_of g.R.Source.tells_coming g.R.Device.can_fail g.R.Source.coming in
    cuts-files reader c.args.tail c.args.sources.items (parts_of c.in_ok-merged.merged) c.in_ok-merged.ensures.unread
    c.args.options.counts c.report_merged.result c.report_merged.ensures.left

pub returns-clause-networks : goal.returns-clause-networks
returns-clause-networks g c =
    let reader = reader_of g.R.Source.tells_coming g.R.Device.can_fail g.R.Source.coming in
    networks-files reader c.args.tail c.args.sources.items (parts_of c.in_ok-merged.merged)
    c.in_ok-merged.ensures.unread c.args.options.counts c.report_merged.result c.report_merged.ensures.left
