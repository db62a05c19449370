use Rattle.std.proofs.Common.{◌≡◌, ◌+◌, ◌++◌, [], ◌∷◌, ◌<◌, ◌≤◌, ◌^◌, ℕ, length, map, sym, ◌∙◌, subst, arith, rules}
use Rattle.std.proofs.Common.{map-id, length-append}
use Rattle.std.proofs.lemmas.List.{map-append, length-map}
use Rattle.std.proofs.lemmas.Iterator.Adapters.{YieldsList-from_vec}
use Rattle.std.proofs.lemmas.Iterator.Consumers.{YieldsList-end, YieldsList-turn}
use Rattle.cap_source.specs.inner.Captures.{capture_feed}
use Rattle.cap_merge.proofs.Unread.{AreUnread-more}
use Rattle.cap_merge.specs.inner.Readers.{IsUnread, AreUnread, reader_of}
use Rattle.cap_merge.proofs.files.captures_of.Goals as goal

in_range : (file n m l : ℕ) → file ≡ 1 + n → n < m → l ≡ m → l ≤ 32 → file + 1 < 2 ^ 32
in_range file n m l a b d e = omega arith

next_number : (file n m : ℕ) → file ≡ 1 + n → m ≡ n + 1 → file + 1 ≡ 1 + m
next_number file n m a b = omega arith

pub loop-source-preserved : goal.loop-source-preserved
loop-source-preserved g c =
    let i = c.loop-source.invariant in
    let reader = reader_of g.R.Source.tells_coming g.R.Device.can_fail g.R.Source.coming in
    let seen = c.loop-source.yielded in
    let x = c.in-Some.source in
    let e = c.with_comments-capture.ensures in
    let place : c.loop-source.file ≡ 1 + length (map reader seen) = omega (arith, i.number, length-map seen reader) in
    let is : IsUnread c.args.comments c.args.tail (1 + length (map reader seen)) (reader x)
    (capture_feed c.with_comments-capture.result) =
    subst (λ n. IsUnread c.args.comments c.args.tail n (reader x) (capture_feed c.with_comments-capture.result)) place
    (record {
      files = e.files;
      told = e.told;
      items = e.items;
      endings = e.endings;
      broken = e.whole;
      can_fail = e.can_fail;
    }) in
    let more = AreUnread-more c.args.comments c.args.tail 1 (map reader seen)
    (map capture_feed c.loop-source.captures.items) (reader x)
    (capture_feed c.with_comments-capture.result) i.unread is in
    let pushed : c.push.new.self.items ≡ c.loop-source.captures.items ++ c.with_comments-capture.result ∷ [] =
    search rules in
    record {
      number = next_number _ _ _ i.number (length-append seen (x ∷ []));
      unread =
          rw (
            map-append reader seen (x ∷ []),
            pushed,
            map-append capture_feed c.loop-source.captures.items
                (c.with_comments-capture.result ∷ []),
          ) more;
    }

pub returns-clause-unread : goal.returns-clause-unread
returns-clause-unread g c =
    let reader = reader_of g.R.Source.tells_coming g.R.Device.can_fail g.R.Source.coming in
    let it = c.into_iter-source-iterator in
    let given = it.ensures.into_iter_gives in
    let end =
    YieldsList-end (YieldsList-from_vec {s = it.result} c.args.sources.items given.0 (given.1 ∙ c.args.sources.ok.0))
    c.loop-source.yielded c.loop-source.source-iterator c.loop-source.yielded_by c.next.result c.next.new.self
    c.in-None.is c.next.ensures.steps in
    let all : c.loop-source.yielded ≡ c.args.sources.items = sym (map-id c.loop-source.yielded) ∙ end.0 in
    subst
    (λ l. AreUnread c.args.comments c.args.tail 1 (map reader l) (map capture_feed c.loop-source.captures.items)) all
    c.loop-source.invariant.unread

pub overflow_add-file : goal.overflow_add-file
overflow_add-file g c =
    let it = c.into_iter-source-iterator in
    let given = it.ensures.into_iter_gives in
    let turn = YieldsList-turn (YieldsList-from_vec {s = it.result} c.args.sources.items given.0 (given.1
    ∙ c.args.sources.ok.0))
    c.loop-source.yielded c.loop-source.source-iterator c.loop-source.yielded_by c.next.result c.next.new.self
    c.in-Some.source c.in-Some.is c.next.ensures.steps in
    record {
      fits = in_range c.loop-source.file _ _ _ c.loop-source.invariant.number turn.0 c.args.sources.ok.0
          c.requires.most;
    }
