-- What clap's getters give, as the rows of a parse say it.
use Rattle.std.proofs.Common.{◌≡◌, ◌++◌, List, [], Option, Some, None, Result, Ok, Err, OnOk, is_ok, if◌then◌else◌, map}
use Rattle.std.proofs.Common.{option_map, ap, sym, append-nil, ◌∙◌}
use Rattle.std.proofs.lemmas.List.{map-append}
use Rattle.std.specs.Borrow.{Bor}
use Rattle.std.specs.declared.alloc.AllocError.{AllocError}
use Rattle.std.specs.Option.{unwrap_or}
use Rattle.clap.specs.Words.{Text, all_of, first_of, first_value, matched_of, raw_values, rows_of}
use Rattle.clap.specs.declared.parser.matches.Found.{Found}
use Rattle.clap.proofs.WalkLemmas.{first_value-rows, raw_values-rows}

-- the first value of an argument
pub first_value_is : (f : Found) (id : Text) → first_value f id ≡ first_of id (rows_of f)
first_value_is f id = first_value-rows f id

-- all values of an argument
pub values_are : (f : Found) (id : Text) → option_map raw_values (matched_of f id) ≡ all_of id (rows_of f)
values_are f id = raw_values-rows f id

-- the values that a getter gives are those of the rows
pub values_given : (given : Option (List Text)) (f : Found) (id : Text)
    → given ≡ option_map raw_values (matched_of f id)
    → unwrap_or given [] ≡ unwrap_or (all_of id (rows_of f)) []
values_given given f id is = ap (λ o. unwrap_or o []) (is ∙ values_are f id)

abbrev texts : List (Bor Text) → List Text
texts files = map (λ f. f.now) files

-- some files and those that an argument names, if they could be added
pub added_named : (old named new : List (Bor Text)) (f : Found) (id : Text) (r : Result (Unit {0}) AllocError)
    → new ≡ (if is_ok r then old ++ named else old)
    → Some (texts named) ≡ option_map raw_values (matched_of f id)
    → OnOk r (texts new ≡ texts old ++ unwrap_or (all_of id (rows_of f)) [])
added_named old named new f id (Ok done) added is =
    ap texts added ∙ (map-append (λ name. name.now) old named
    ∙ ap (λ l. texts old ++ l) (values_given (Some (texts named)) f id is))
added_named old named new f id (Err e) added is = tt

-- nothing is added if the argument wasn't given
pub added_none : (files : List (Bor Text)) (f : Found) (id : Text)
    → None ≡ option_map raw_values (matched_of f id)
    → texts files ≡ texts files ++ unwrap_or (all_of id (rows_of f)) []
added_none files f id is =
    sym (append-nil (texts files)) ∙ ap (λ l. texts files ++ l) (values_given None f id is)
