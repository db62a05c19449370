use Rattle.std.proofs.Common.{◌≡◌, Ok, refl}
use Rattle.clap.specs.Words.{App, with_subcommand}
use Rattle.cap_line.specs.Command.{IsListing, IsTimed, blocks_app, capt_alone, list_app}
use Rattle.cap_line.proofs.Parsing.{AddsMade-weaker}
use Rattle.cap_line.proofs.command.listing.Goals as goal

-- `capt` with `list`
abbrev HasList : App → Type 0
HasList app = (list : App) × IsTimed list_app list × (app ≡ with_subcommand capt_alone list.top)

pub returns : goal.returns
returns c =
    let first = AddsMade-weaker (λ app. app ≡ capt_alone) (IsTimed list_app) HasList (Ok c.capt_itself.result)
    c.list.result c.with_subcommand-capt.result c.capt_itself.ensures c.list.ensures.app
    (λ app s e is. (s, is, rw e refl)) c.with_subcommand-capt.ensures in
    AddsMade-weaker HasList (λ s. s ≡ blocks_app) IsListing c.with_subcommand-capt.result c.blocks-2.result
    c.with_subcommand.result first c.blocks-2.ensures.app
    (λ app s is e. record { list = is.0; is_list = is.1; app_is = rw (is.2, e) refl }) c.with_subcommand.ensures
