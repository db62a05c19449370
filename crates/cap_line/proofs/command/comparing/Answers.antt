use Rattle.std.proofs.Common.{◌≡◌, refl}
use Rattle.clap.specs.Words.{App, with_subcommand}
use Rattle.cap_line.specs.Command.{IsComparing, IsDiff, IsListing, IsTimed, check_app, digest_app}
use Rattle.cap_line.proofs.Parsing.{AddsMade-weaker}
use Rattle.cap_line.proofs.command.comparing.Goals as goal

-- what prints one capture, with `diff`, and with `digest` too
abbrev HasDiff : App → Type 0
HasDiff app = (listing : App) × (diff : App) × IsListing listing × IsDiff diff
    × (app ≡ with_subcommand listing diff.top)

abbrev HasDigest : App → Type 0
HasDigest app = (old : App) × HasDiff old × (app ≡ with_subcommand old digest_app.top)

pub returns : goal.returns
returns c =
    let first = AddsMade-weaker IsListing IsDiff HasDiff c.listing.result c.diff.result
    c.with_subcommand-capt.result c.listing.ensures c.diff.ensures.app (λ app s e is. (app, s, e, is, refl))
    c.with_subcommand-capt.ensures in
    let second = AddsMade-weaker HasDiff (λ s. s ≡ digest_app) HasDigest c.with_subcommand-capt.result c.digest.result
    c.with_subcommand-capt-2.result first c.digest.ensures.app (λ app s is e. (app, is, rw e refl))
    c.with_subcommand-capt-2.ensures in
    AddsMade-weaker HasDigest (IsTimed check_app) IsComparing c.with_subcommand-capt-2.result c.check.result
    c.with_subcommand.result second c.check.ensures.app
    (λ app s is timed. record {
      listing = is.1.0;
      diff = is.1.1;
      check = s;
      is_listing = is.1.2;
      is_diff = is.1.3;
      is_check = timed;
      app_is = rw (is.2, is.1.4) refl;
    })
    c.with_subcommand.ensures
