-- From clap's answer to capt's.
use Rattle.std.proofs.Common.{◌≡◌, ◌⊎◌, List, [], Option, Some, None, Result, Ok, Err, IfOk, IfSome, IsOkAnd, IsSome}
use Rattle.std.proofs.Common.{true, false, refl, sym, ap, ◌∙◌, subst, inl, inr, arith}
use Rattle.clap.specs.Words.{AddsArg, App, Rule, Text, Row, IsAmong, app_of, fault_of, is_simple, is_simple_and_free}
use Rattle.clap.specs.Words.{subcommand_of, with_rule, with_subcommand}
use Rattle.clap.proofs.OnLiterals.{clap_on_literals}
use Rattle.clap.specs.declared.error.kind.ErrorKind.{ErrorKind}
use Rattle.clap.specs.declared.error.kind.ErrorKind.TheVariants as kind
use Rattle.std.specs.declared.alloc.AllocError.{AllocError}
use Rattle.std.specs.Result.{result_err}
use Rattle.std.proofs.lemmas.Result.{IfOk-weaker}
use Rattle.clap.specs.declared.builder.arg.Arg.{Arg}
use Rattle.clap.specs.declared.builder.command.Command.{Command}
use Rattle.clap.specs.declared.builder.command.Command.TheViews.{out-Command}
use Rattle.cap_line.specs.Command.{AddsMade, AddsRule, ArgumentNames, IsCapt, IsConvert, IsJoin, IsMerge, IsPrinting}
use Rattle.cap_line.specs.Command.{IsTimed, skipping_app, surveying_app}
use Rattle.cap_line.specs.CommandLine.{Parses, IsJobOf, IsNoJob, IsRefused, fault_by}
use Rattle.cap_line.specs.Jobs.{IsWholeJob}
use Rattle.cap_line.specs.declared.jobs.Job.{Job}
use Rattle.cap_line.specs.declared.faults.LineFault.{LineFault}
use Rattle.cap_line.specs.declared.faults.LineFault.TheVariants.{Help, Line, Files, Input, Output, Memory}

-- capt's command is one whose matches and faults clap's definitions give
pub IsCapt-simple_and_free : (app : App) → IsCapt app → is_simple_and_free app ≡ true
unfolding clap_on_literals
IsCapt-simple_and_free app is = grind arith

pub IsCapt-simple : (app : App) → IsCapt app → is_simple app ≡ true
unfolding clap_on_literals
IsCapt-simple app is = grind arith

-- an answer of the subcommand is the parse's
pub Parses-answered : (words : List Text) (app : App) (r : Result Job LineFault) → IsCapt app → fault_of app words ≡ []
    → IsJobOf (subcommand_of app words) r → (r ≡ Err Help → ⊥) → Parses words r
Parses-answered words app (Ok job) is taken job_is not_help =
    (app, record { is_capt = is; taken = taken; job = job_is })
Parses-answered words app (Err Help) is taken job_is not_help = absurd (not_help refl)
Parses-answered words app (Err Line) is taken job_is not_help =
    inr (app, record { is_capt = is; taken = taken; job = job_is })
Parses-answered words app (Err Files) is taken job_is not_help =
    (app, record { is_capt = is; taken = taken; job = job_is })
Parses-answered words app (Err Input) is taken job_is not_help =
    (app, record { is_capt = is; taken = taken; job = job_is })
Parses-answered words app (Err Output) is taken job_is not_help =
    (app, record { is_capt = is; taken = taken; job = job_is })
Parses-answered words app (Err Memory) is taken job_is not_help = tt

-- a subcommand's answer is never help
pub IsJobOf-no_help : (entered : Option (Text × List Row)) (r : Result Job LineFault) → IsJobOf entered r
    → r ≡ Err Help → ⊥
IsJobOf-no_help entered r job is = grind arith

-- a job of a subcommand is whole
pub whole-of : (entered : Option (Text × List Row)) (r : Result Job LineFault) → IsJobOf entered r → IfOk r IsWholeJob
whole-of entered r is = grind arith

-- an error of clap's says that memory ran out, or is one of its kinds
abbrev Errs : List Text → App → ErrorKind → Type 0
Errs words app k = (k ≡ kind.OutOfMemory) ⊎ IsAmong k (fault_of app words)

refused_line : (words : List Text) (app : App) (k : ErrorKind) → IsCapt app → fault_by k ≡ Line
    → (k ≡ kind.OutOfMemory → ⊥)
    → Errs words app k → (r : Result Job LineFault) → r ≡ Err Line → Parses words r
refused_line words app k h line other (inl w) r at = absurd (other w)
refused_line words app k h line other (inr among) r at =
    subst (Parses words) (sym at) (inl (app, k, line, record { is_capt = h; refused = among }))

-- clap's refusal is the parse's
pub Parses-refused : (words : List Text) (app : App) (k : ErrorKind) → IsCapt app → Errs words app k
    → Parses words (Err (fault_by k))
Parses-refused words app kind.DisplayHelp is (inl e) = absurd (let no : kind.DisplayHelp ≡ kind.OutOfMemory = e in cc)
Parses-refused words app kind.DisplayHelp is (inr among) =
    (app, kind.DisplayHelp, refl, record { is_capt = is; refused = among })
Parses-refused words app kind.DisplayVersion is (inl e) =
    absurd (let no : kind.DisplayVersion ≡ kind.OutOfMemory = e in cc)
Parses-refused words app kind.DisplayVersion is (inr among) =
    (app, kind.DisplayVersion, refl, record { is_capt = is; refused = among })
Parses-refused words app kind.OutOfMemory is errs = tt
Parses-refused words app kind.InvalidValue is errs =
    refused_line words app kind.InvalidValue is refl (λ e. (cc)) errs _ refl
Parses-refused words app kind.UnknownArgument is errs =
    refused_line words app kind.UnknownArgument is refl (λ e. (cc)) errs _ refl
Parses-refused words app kind.InvalidSubcommand is errs =
    refused_line words app kind.InvalidSubcommand is refl (λ e. (cc)) errs _ refl
Parses-refused words app kind.NoEquals is errs = refused_line words app kind.NoEquals is refl (λ e. (cc)) errs _ refl
Parses-refused words app kind.ValueValidation is errs =
    refused_line words app kind.ValueValidation is refl (λ e. (cc)) errs _ refl
Parses-refused words app kind.TooManyValues is errs =
    refused_line words app kind.TooManyValues is refl (λ e. (cc)) errs _ refl
Parses-refused words app kind.TooFewValues is errs =
    refused_line words app kind.TooFewValues is refl (λ e. (cc)) errs _ refl
Parses-refused words app kind.WrongNumberOfValues is errs =
    refused_line words app kind.WrongNumberOfValues is refl (λ e. (cc)) errs _ refl
Parses-refused words app kind.ArgumentConflict is errs =
    refused_line words app kind.ArgumentConflict is refl (λ e. (cc)) errs _ refl
Parses-refused words app kind.MissingRequiredArgument is errs =
    refused_line words app kind.MissingRequiredArgument is refl (λ e. (cc)) errs _ refl
Parses-refused words app kind.MissingSubcommand is errs =
    refused_line words app kind.MissingSubcommand is refl (λ e. (cc)) errs _ refl
Parses-refused words app kind.DisplayHelpOnMissingArgumentOrSubcommand is errs =
    refused_line words app kind.DisplayHelpOnMissingArgumentOrSubcommand is refl (λ e. (cc)) errs _ refl
Parses-refused words app kind.Io is errs = refused_line words app kind.Io is refl (λ e. (cc)) errs _ refl
Parses-refused words app kind.Format is errs = refused_line words app kind.Format is refl (λ e. (cc)) errs _ refl

-- nothing is said of an answer that is an error
pub IfOk-none : {A E : Type 0} (P : A → Type 0) (r : Result A E) (error : E) → r ≡ Err error → IfOk r P
IfOk-none P r error is = subst (λ s. IfOk s P) (sym is) tt

-- an argument that isn't global adds none that is
pub AddsArg-local : (old : Command) (arg : Arg) (new : Command) → AddsArg old arg new
    → (out-Command old).has_globals ≡ false
    → arg.global ≡ false → (out-Command new).has_globals ≡ false
AddsArg-local old arg new added old_local local = rw (added.globals, old_local, local)

-- what a command with one more argument is
pub AddsRule-weaker : (P Q : App → Type 0) (made all : Result Command AllocError) (rule : Rule)
    → IfOk made (λ c. P (app_of c))
    → ((app : App) → P app → Q (with_rule app rule)) → IfOk all (λ c. AddsRule made rule (app_of c))
    → IfOk all (λ c. Q (app_of c))
AddsRule-weaker P Q (Ok old) all rule is step =
    IfOk-weaker all _ _ (λ c added. subst Q (sym added) (step (app_of old) is))
AddsRule-weaker P Q (Err e) all rule is step = IfOk-weaker all _ _ (λ c added. absurd added)

-- a command with one more argument, both known
pub AddsRule-is : (made all : Result Command AllocError) (rule known : Rule) (before : App)
    → IfOk made (λ c. app_of c ≡ before)
    → rule ≡ known → IfOk all (λ c. AddsRule made rule (app_of c)) → IfOk all (λ c. app_of c ≡ with_rule before known)
AddsRule-is made all rule known before is rule_is =
    AddsRule-weaker (λ app. app ≡ before) (λ app. app ≡ with_rule before known) made all rule is
    (λ app e. rw (e, rule_is) refl)

-- a command that is made of the names of the forms of times, with one more argument
pub IsTimed-more : (make : ArgumentNames → App) (made all : Result Command AllocError) (rule known : Rule)
    → IfOk made (λ c. IsTimed make (app_of c)) → rule ≡ known → IfOk all (λ c. AddsRule made rule (app_of c))
    → IfOk all (λ c. IsTimed (λ times. with_rule (make times) known) (app_of c))
IsTimed-more make made all rule known is rule_is =
    AddsRule-weaker (IsTimed make) (IsTimed (λ times. with_rule (make times) known)) made all rule is
    (λ app e. record { times = e.times; times_are = e.times_are; app_is = rw (e.app_is, rule_is) refl })

-- a command with one more argument, behind what was added to one before
pub AddsRule-behind : (made mid all : Result Command AllocError) (f : App → App) (rule known : Rule)
    → IfOk mid (λ c. IsOkAnd made (λ b. app_of c ≡ f (app_of b))) → rule ≡ known
    → IfOk all (λ c. AddsRule mid rule (app_of c))
    → IfOk all (λ c. IsOkAnd made (λ b. app_of c ≡ with_rule (f (app_of b)) known))
AddsRule-behind (Ok b) (Ok m) all f rule known is rule_is =
    IfOk-weaker all _ _ (λ c added.
    added ∙ (ap (λ app. with_rule app rule) is ∙ ap (λ r. with_rule (f (app_of b)) r) rule_is))
AddsRule-behind (Err e) (Ok m) all f rule known is rule_is = absurd is
AddsRule-behind made (Err e) all f rule known is rule_is = IfOk-weaker all _ _ (λ c added. absurd added)

-- a command that takes any number of captures, of a known one
pub surveys : (P : App → Type 0) (made all : Result Command AllocError) → IfOk made (λ c. P (app_of c))
    → IfOk all (λ c. IsOkAnd made (λ b. app_of c ≡ surveying_app (app_of b)))
    → IfOk all (λ c. (before : App) × P before × (app_of c ≡ surveying_app before))
surveys P (Ok b) all is = IfOk-weaker all _ _ (λ c added. (app_of b, is, added))
surveys P (Err e) all is = IfOk-weaker all _ _ (λ c added. absurd added)

-- a command that can leave out captures, of one that is made of the names of the forms of times
pub skips : (make : ArgumentNames → App) (made all : Result Command AllocError)
    → IfOk made (λ c. IsTimed make (app_of c))
    → IfOk all (λ c. IsOkAnd made (λ b. app_of c ≡ skipping_app (app_of b)))
    → IfOk all (λ c. IsTimed (λ times. skipping_app (make times)) (app_of c))
skips make (Ok b) all is = IfOk-weaker all _ _ (λ c added.
    record { times = is.times; times_are = is.times_are; app_is = added ∙ ap skipping_app is.app_is })
skips make (Err e) all is = IfOk-weaker all _ _ (λ c added. absurd added)

-- what a command with one more subcommand is
pub AddsMade-weaker : (P S Q : App → Type 0) (made sub all : Result Command AllocError) → IfOk made (λ c. P (app_of c))
    → IfOk sub (λ c. S (app_of c)) → ((app s : App) → P app → S s → Q (with_subcommand app s.top))
    → IfOk all (λ c. AddsMade made sub (app_of c)) → IfOk all (λ c. Q (app_of c))
AddsMade-weaker P S Q (Ok old) (Ok s) all is sub_is step =
    IfOk-weaker all _ _ (λ c added. subst Q (sym added) (step (app_of old) (app_of s) is sub_is))
AddsMade-weaker P S Q (Ok old) (Err e) all is sub_is step = IfOk-weaker all _ _ (λ c added. absurd added)
AddsMade-weaker P S Q (Err e) sub all is sub_is step = IfOk-weaker all _ _ (λ c added. absurd added)

-- a command with one more subcommand, both known
pub AddsMade-is : (made sub all : Result Command AllocError) (before known : App) → IfOk made (λ c. app_of c ≡ before)
    → IfOk sub (λ c. app_of c ≡ known) → IfOk all (λ c. AddsMade made sub (app_of c))
    → IfOk all (λ c. app_of c ≡ with_subcommand before known.top)
AddsMade-is made sub all before known is sub_is =
    AddsMade-weaker (λ app. app ≡ before) (λ s. s ≡ known)
    (λ app. app ≡ with_subcommand before known.top) made sub all is sub_is
    (λ app s e f. rw (e, f) refl)

-- what prints with `convert` added, and with `merge` too
abbrev HasConvert : App → Type 0
HasConvert app = (printing : App) × (convert : App) × IsPrinting printing × IsConvert convert
    × (app ≡ with_subcommand printing convert.top)

abbrev HasMerge : App → Type 0
HasMerge app = (old : App) × (merge : App) × HasConvert old × IsMerge merge × (app ≡ with_subcommand old merge.top)

-- capt is what prints, with `convert`, `merge` and `join` added
pub IsCapt-added : (printing convert merge join mid most all : Result Command AllocError)
    → IfOk printing (λ c. IsPrinting (app_of c)) → IfOk convert (λ c. IsConvert (app_of c))
    → IfOk merge (λ c. IsMerge (app_of c)) → IfOk join (λ c. IsJoin (app_of c))
    → IfOk mid (λ c. AddsMade printing convert (app_of c)) → IfOk most (λ c. AddsMade mid merge (app_of c))
    → IfOk all (λ c. AddsMade most join (app_of c)) → IfOk all (λ c. IsCapt (app_of c))
IsCapt-added printing convert merge join mid most all is is_convert is_merge is_join mid_is most_is all_is =
    let first = AddsMade-weaker IsPrinting IsConvert HasConvert printing convert mid is is_convert
    (λ app s e s_is. (app, s, e, s_is, refl)) mid_is in
    let second = AddsMade-weaker HasConvert IsMerge HasMerge mid merge most first is_merge
    (λ app s e s_is. (app, s, e, s_is, refl)) most_is in
    AddsMade-weaker HasMerge IsJoin IsCapt most join all second is_join
    (λ app s e s_is. record {
      printing = e.2.0;
      convert = e.2.1;
      merge = e.1;
      join = s;
      is_printing = e.2.2;
      is_convert = e.2.3;
      is_merge = e.3;
      is_join = s_is;
      app_is = rw (e.4, e.2.4) refl;
    })
    all_is

-- clap has said why it gives no matches
pub IsRefused-said : {A : Type 0} (words : List Text) (app : App) (k : ErrorKind) (said : Option A) → IsCapt app
    → Errs words app k
    → (IsSome said → k ≡ kind.OutOfMemory → ⊥) → IfSome said (λ text. IsRefused words)
IsRefused-said words app k None is errs other = tt
IsRefused-said words app k (Some text) is (inl e) other = absurd (other refl e)
IsRefused-said words app k (Some text) is (inr among) other = (app, k, record { is_capt = is; refused = among })

-- clap has said why it gives no matches, and nothing else was said
pub IsRefused-said_alone : {A : Type 0} (words : List Text) (said : Option A) → IfSome said (λ text. IsRefused words)
    → IfSome said (λ text. IsRefused words ⊎ IsNoJob words)
IsRefused-said_alone words None is = tt
IsRefused-said_alone words (Some text) is = inl is

err-of : (r : Result Job LineFault) (fault : LineFault) → Some fault ≡ result_err r → r ≡ Err fault
err-of (Ok job) fault is = grind arith
err-of (Err found) fault is = grind arith

-- clap takes the words, they give no job, and that was said
pub IsNoJob-said : {A : Type 0} (words : List Text) (app : App) (r : Result Job LineFault) (fault : LineFault)
    (said : Option A) → IsCapt app
    → fault_of app words ≡ [] → IsJobOf (subcommand_of app words) r → Some fault ≡ result_err r
    → (IsSome said → fault ≡ Line)
    → IfSome said (λ text. IsRefused words ⊎ IsNoJob words)
IsNoJob-said words app r fault None is taken job at line = tt
IsNoJob-said words app r fault (Some text) is taken job at line =
    let here : r ≡ Err Line = err-of r fault at ∙ ap Err (line refl) in
    inr (app, record { is_capt = is; taken = taken; job = subst (IsJobOf (subcommand_of app words)) here job })
