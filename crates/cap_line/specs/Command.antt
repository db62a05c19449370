-- capt's command line: what a parse reads of it.
use Rattle.std.specs.Prelude.{◌≡◌, true, List, [], ◌∷◌, map, codes, Some, Result, IsOkAnd}
use Rattle.std.specs.Borrow.{Bor}
use Rattle.clap.specs.Lexer.{usize_max}
use Rattle.clap.specs.Words.{App, Rule, Text, app_of, new_app, new_rule, with_rule, with_subcommand}
use Rattle.std.specs.declared.alloc.AllocError.{AllocError}
use Rattle.clap.specs.declared.builder.command.Command.{Command}
use Rattle.clap.specs.Simple.{on_top}
use Rattle.clap.specs.declared.builder.action.ArgAction.TheVariants.{Append, SetTrue}
use Rattle.clap.specs.declared.builder.value_parser.ValueParser.TheVariants as parser

-- the names that an argument takes, as clap keeps them
abbrev pub ArgumentNames : Type 0
ArgumentNames = Bor (List (Bor Text))

abbrev pub AreNames : ArgumentNames → List Text → Type 0
AreNames names texts = map (λ name. name.now) names.now ≡ texts

-- the flag of that name
abbrev pub flag_rule : Text → Rule
flag_rule name = record (new_rule name) { long = Some name; action = Some SetTrue }

-- the option of that name, which takes one of those names
abbrev pub choice_rule : Text → ArgumentNames → Rule
choice_rule option names = record (new_rule option) {
  long = Some option;
  value_names = 1;
  parser =
      Some (parser.Names names);
}

-- the option `--order`
abbrev pub order_rule : ArgumentNames → Rule
order_rule names = choice_rule (codes "order") names

abbrev pub IsOrderRule : Rule → Type 0
IsOrderRule rule = (names : ArgumentNames) × AreNames names (codes "big" ∷ codes "little" ∷ [])
    × (rule ≡ order_rule names)

-- the option `--to`
abbrev pub to_rule : ArgumentNames → Rule
to_rule names = choice_rule (codes "to") names

abbrev pub IsToRule : Rule → Type 0
IsToRule rule = (names : ArgumentNames) × AreNames names (codes "pcap" ∷ codes "pcapng" ∷ []) × (rule ≡ to_rule names)

-- the same, which is required
abbrev pub required_to_rule : ArgumentNames → Rule
required_to_rule names = record (to_rule names) { required = true }

abbrev pub IsRequiredToRule : Rule → Type 0
IsRequiredToRule rule = (names : ArgumentNames) × AreNames names (codes "pcap" ∷ codes "pcapng" ∷ [])
    × (rule ≡ required_to_rule names)

-- the option `--unit`
abbrev pub unit_rule : ArgumentNames → Rule
unit_rule names = choice_rule (codes "unit") names

abbrev pub AreUnits : ArgumentNames → Type 0
AreUnits names = AreNames names (codes "micro" ∷ codes "nano" ∷ [])

abbrev pub IsUnitRule : Rule → Type 0
IsUnitRule rule = (names : ArgumentNames) × AreUnits names × (rule ≡ unit_rule names)

-- the option `--ignore`, which may be given more than once
abbrev pub ignore_rule : ArgumentNames → Rule
ignore_rule names = record (choice_rule (codes "ignore") names) { action = Some Append }

abbrev pub IsIgnoreRule : Rule → Type 0
IsIgnoreRule rule = (names : ArgumentNames)
    × AreNames names (codes "time" ∷ codes "link" ∷ codes "original" ∷ [])
    × (rule ≡ ignore_rule names)

-- the option `--time`
abbrev pub time_rule : ArgumentNames → Rule
time_rule names = choice_rule (codes "time") names

abbrev pub AreTimes : ArgumentNames → Type 0
AreTimes names = AreNames names (codes "exact" ∷ codes "decimal" ∷ codes "utc" ∷ [])

abbrev pub IsTimeRule : Rule → Type 0
IsTimeRule rule = (names : ArgumentNames) × AreTimes names × (rule ≡ time_rule names)

-- the option `-o` or `--output`, the letter's code being 111, which is required
abbrev pub out_rule : Rule
out_rule = record (new_rule (codes "out")) {
  short = Some 111;
  long = Some (codes "output");
  value_names =
      1;
  required = true;
}

-- the argument of that name, which is required
abbrev pub required_rule : Text → Rule
required_rule name = record (new_rule name) { required = true }

-- the argument FILE, which is required
abbrev pub file_rule : Rule
file_rule = required_rule (codes "FILE")

-- the arguments FILE.., of which there is at least one
abbrev pub files_rule : Rule
files_rule =
    record (new_rule (codes "FILE")) {
      required = true;
      range = Some (record { start_inclusive = 1; end_inclusive = usize_max });
    }

-- the arguments FILE.., of which there may be none
abbrev pub listed_rule : Rule
listed_rule =
    record (new_rule (codes "FILE")) {
      range = Some (record { start_inclusive = 1; end_inclusive = usize_max });
    }

-- the subcommand of that name with `[--allow-cut]`, and with `[--explain]` too, which each has before its other
-- arguments
abbrev pub cutting_app : Text → App
cutting_app name = with_rule (new_app name) (flag_rule (codes "allow-cut"))

abbrev pub reading_app : Text → App
reading_app name = with_rule (cutting_app name) (flag_rule (codes "explain"))

-- the option of that name, which takes a text
abbrev pub option_rule : Text → Rule
option_rule name = record (new_rule name) { long = Some name; value_names = 1 }

-- the option `--data`
abbrev pub data_rule : Rule
data_rule = option_rule (codes "data")

-- the option `--top`
abbrev pub top_rule : Rule
top_rule = option_rule (codes "top")

-- the option `--files0-from`
abbrev pub list_rule : Rule
list_rule = option_rule (codes "files0-from")

-- the option `--verify`
abbrev pub verify_rule : Rule
verify_rule = option_rule (codes "verify")

-- the subcommand of that name with `[--allow-cut] [--explain] [--json]`, before its other arguments: one that prints
abbrev pub showing_app : Text → App
showing_app name = with_rule (reading_app name) (flag_rule (codes "json"))

-- the same with `[--time FORM]` too: one that prints times
abbrev pub timing_app : Text → ArgumentNames → App
timing_app name times = with_rule (showing_app name) (time_rule times)

-- The subcommand is made of the names of the forms of times.
pub record IsTimed (make : ArgumentNames → App) (app : App) : Type 0 where
  pub times : ArgumentNames
  pub times_are : AreTimes times
  pub app_is : app ≡ make times

-- `list [--time FORM] [--class] [--ipv6] [--data N] FILE`
abbrev pub list_app : ArgumentNames → App
list_app times =
    with_rule (with_rule (with_rule (with_rule (timing_app (codes "list") times) (flag_rule (codes "class")))
    (flag_rule (codes "ipv6"))) data_rule) file_rule

-- `blocks FILE`
abbrev pub blocks_app : App
blocks_app = with_rule (showing_app (codes "blocks")) file_rule

-- `diff [--time FORM] [--data N] [--ignore KIND].. A B`
abbrev pub diff_app : ArgumentNames → ArgumentNames → App
diff_app kinds times =
    with_rule (with_rule (with_rule (with_rule (timing_app (codes "diff") times) data_rule) (ignore_rule kinds))
    (required_rule (codes "A"))) (required_rule (codes "B"))

pub record IsDiff (app : App) : Type 0 where
  pub kinds : ArgumentNames
  pub kinds_are : AreNames kinds (codes "time" ∷ codes "link" ∷ codes "original" ∷ [])
  pub is_timed : IsTimed (diff_app kinds) app

-- a command that takes any number of captures, with `[--names] [--files0-from LIST] [FILE..]` behind its other
-- arguments
abbrev pub surveying_app : App → App
surveying_app before = with_rule (with_rule (with_rule before (flag_rule (codes "names"))) list_rule) listed_rule

-- `digest [--verify LIST] [--names] [--files0-from LIST] [FILE..]`
abbrev pub digest_app : App
digest_app = surveying_app (with_rule (showing_app (codes "digest")) verify_rule)

-- `check [--time FORM] [--digest] [--names] [--files0-from LIST] [FILE..]`
abbrev pub check_app : ArgumentNames → App
check_app times = surveying_app (with_rule (timing_app (codes "check") times) (flag_rule (codes "digest")))

-- a command that can leave out captures that are refused, with `[--skip-refused] FILE..` behind its other arguments
abbrev pub skipping_app : App → App
skipping_app before = with_rule (with_rule before (flag_rule (codes "skip-refused"))) files_rule

-- `info [--time FORM] [--skip-refused] FILE..`
abbrev pub info_app : ArgumentNames → App
info_app times = skipping_app (timing_app (codes "info") times)

-- `report [--time FORM] [--top N] [--ipv6] [--skip-refused] FILE..`
abbrev pub report_app : ArgumentNames → App
report_app times =
    skipping_app (with_rule (with_rule (timing_app (codes "report") times) top_rule) (flag_rule (codes "ipv6")))

-- the subcommand of that name with `[--order ORDER] [--unit UNIT] -o OUT [--whole]`, before its files
abbrev pub writing_app : Text → ArgumentNames → ArgumentNames → App
writing_app name orders units = with_rule (with_rule (with_rule (with_rule (reading_app name) (order_rule orders))
    (unit_rule units)) out_rule) (flag_rule (codes "whole"))

pub record IsWriting (name : Text) (app : App) : Type 0 where
  pub orders : ArgumentNames
  pub orders_are : AreNames orders (codes "big" ∷ codes "little" ∷ [])
  pub units : ArgumentNames
  pub units_are : AreUnits units
  pub app_is : app ≡ writing_app name orders units

-- `convert .. --to FORMAT FILE`
abbrev pub convert_app : ArgumentNames → ArgumentNames → ArgumentNames → App
convert_app orders units formats =
    with_rule (with_rule (writing_app (codes "convert") orders units) (required_to_rule formats)) file_rule

pub record IsConvert (app : App) : Type 0 where
  pub orders : ArgumentNames
  pub orders_are : AreNames orders (codes "big" ∷ codes "little" ∷ [])
  pub units : ArgumentNames
  pub units_are : AreUnits units
  pub formats : ArgumentNames
  pub formats_are : AreNames formats (codes "pcap" ∷ codes "pcapng" ∷ [])
  pub app_is : app ≡ convert_app orders units formats

-- the subcommand of that name with `.. [--to FORMAT] FILE..`
abbrev pub gathering_app : Text → ArgumentNames → ArgumentNames → ArgumentNames → App
gathering_app name orders units formats =
    with_rule (with_rule (writing_app name orders units) (to_rule formats)) files_rule

pub record IsGathering (name : Text) (app : App) : Type 0 where
  pub orders : ArgumentNames
  pub orders_are : AreNames orders (codes "big" ∷ codes "little" ∷ [])
  pub units : ArgumentNames
  pub units_are : AreUnits units
  pub formats : ArgumentNames
  pub formats_are : AreNames formats (codes "pcap" ∷ codes "pcapng" ∷ [])
  pub app_is : app ≡ gathering_app name orders units formats

-- `merge .. [--share-interfaces] FILE..`
abbrev pub merge_app : ArgumentNames → ArgumentNames → ArgumentNames → App
merge_app orders units formats =
    with_rule (gathering_app (codes "merge") orders units formats) (flag_rule (codes "share-interfaces"))

pub record IsMerge (app : App) : Type 0 where
  pub orders : ArgumentNames
  pub orders_are : AreNames orders (codes "big" ∷ codes "little" ∷ [])
  pub units : ArgumentNames
  pub units_are : AreUnits units
  pub formats : ArgumentNames
  pub formats_are : AreNames formats (codes "pcap" ∷ codes "pcapng" ∷ [])
  pub app_is : app ≡ merge_app orders units formats

-- `join .. FILE..`
abbrev pub IsJoin : App → Type 0
IsJoin = IsGathering (codes "join")

-- `new` is the command, which was made, with that argument
abbrev pub AddsRule : Result Command AllocError → Rule → App → Type 0
AddsRule made rule new = IsOkAnd made (λ old. new ≡ with_rule (app_of old) rule)

-- `new` is the command with that subcommand, both of which were made
abbrev pub AddsMade : Result Command AllocError → Result Command AllocError → App → Type 0
AddsMade made sub new = IsOkAnd made (λ old. IsOkAnd sub (λ s. new ≡ with_subcommand (app_of old) (app_of s).top))

-- `capt` without its subcommands, of which one is required; it has a version
abbrev pub capt_alone : App
capt_alone = on_top (λ s. record s { has_version = true; subcommand_required = true }) (new_app (codes "capt"))

-- `capt` with the subcommands that print one capture
abbrev pub listing_app : App → App
listing_app list = with_subcommand (with_subcommand capt_alone list.top) blocks_app.top

pub record IsListing (app : App) : Type 0 where
  pub list : App
  pub is_list : IsTimed list_app list
  pub app_is : app ≡ listing_app list

-- those with `diff`, `digest` and `check` too
abbrev pub comparing_app : App → App → App → App
comparing_app listing diff check =
    with_subcommand (with_subcommand (with_subcommand listing diff.top) digest_app.top) check.top

pub record IsComparing (app : App) : Type 0 where
  pub listing : App
  pub diff : App
  pub check : App
  pub is_listing : IsListing listing
  pub is_diff : IsDiff diff
  pub is_check : IsTimed check_app check
  pub app_is : app ≡ comparing_app listing diff check

-- all that print
abbrev pub printing_app : App → App → App → App
printing_app comparing info report = with_subcommand (with_subcommand comparing info.top) report.top

pub record IsPrinting (app : App) : Type 0 where
  pub comparing : App
  pub info : App
  pub report : App
  pub is_comparing : IsComparing comparing
  pub is_info : IsTimed info_app info
  pub is_report : IsTimed report_app report
  pub app_is : app ≡ printing_app comparing info report

-- those with all that write
abbrev pub capt_app : App → App → App → App → App
capt_app printing convert merge join =
    with_subcommand (with_subcommand (with_subcommand printing convert.top) merge.top) join.top

-- The application is capt's: `capt` and its subcommands.
pub record IsCapt (app : App) : Type 0 where
  pub printing : App
  pub convert : App
  pub merge : App
  pub join : App
  pub is_printing : IsPrinting printing
  pub is_convert : IsConvert convert
  pub is_merge : IsMerge merge
  pub is_join : IsJoin join
  pub app_is : app ≡ capt_app printing convert merge join
