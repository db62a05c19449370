use Rattle.std.proofs.Common.{ap, ◌∙◌}
use Rattle.lru.specs.LruCache.{LruCache, demoted}
use Rattle.cap_ip.specs.declared.headers.Key.{Key}
use Rattle.cap_join.specs.inner.Groups.{GroupState}
use Rattle.cap_join.specs.History.{same_key}
use Rattle.cap_join.proofs.Tabling.{added}
use Rattle.cap_join.proofs.queues.append.Goals as goal

pub returns-in-Ok-clause-ok : goal.returns-in-Ok-clause-ok
returns-in-Ok-clause-ok c =
    ap (λ (x : LruCache Key GroupState). x.entries) c.demote.ensures.entries
    ∙ ap (λ (x : LruCache Key GroupState). demoted (same_key c.args.key.now) x.entries) c.in-Ok.ensures.entries
    ∙ added c.args.key.now c.args.group c.args.groups.now.entries c.args.groups.now.cap c.requires.few
