-- Files that are checked, as they are opened by their names.
use Rattle.std.proofs.Common.{◌≡◌, ◌<◌, ◌+◌, ◌-◌, ℕ, Bool, true, List, [], ◌∷◌, ◌++◌, map, length, Option, Some}
use Rattle.std.proofs.Common.{Ok, Err, Result, get_or, refl, sym, ap, subst, ◌∙◌, arith, length-append}
use Rattle.std.specs.Borrow.{Bor}
use Rattle.std.proofs.lemmas.List.{get_or-map, length-map, map-append}
use Rattle.std.specs.Prelude.{◌&&◌, option_map}
use Rattle.cap_bytes.specs.Device.{Puts}
use Rattle.cap_bytes.specs.declared.faults.Fault.{Fault}
use Rattle.cap_bytes.specs.declared.faults.Fault.TheVariants.{Memory, Write}
use Rattle.cap_bytes.specs.declared.faults.Tail.{Tail}
use Rattle.cap_check.proofs.Following.{ArePrinted, printed-all, printed-fault, printed-more, printed-none}
use Rattle.cap_check.specs.CheckText.{WritesCheck, WritesChecks, asks_digest, check_line_in}
use Rattle.cap_check.specs.Checking.{IsChecked, Opened, is_whole_end}
use Rattle.cap_check.specs.declared.checked.Check.{Check}
use Rattle.cap_check.specs.declared.checked.CheckLine.{CheckLine}
use Rattle.cap_print.specs.declared.forms.Form.{Form}
use Rattle.cap_tool.specs.CheckedNames.{AreGiven, ChecksName, ChecksNames, name_fields}
use Rattle.cap_tool.specs.NameFields.{name_field}
use Rattle.cap_commands.proofs.CheckedFiles.{whole-is}
use Rattle.cap_commands.specs.Jobs.{whole_finding}

-- one file more is opened, or could not be
pub AreGiven-more : {R : Type 0} (gives : List ℕ → Option R → Type 0) (names : List (List ℕ))
    (readers : List (Option R)) (name : List ℕ) (reader : Option R)
    → AreGiven gives names readers → length readers < length names → name ≡ get_or names (length readers) []
    → gives name reader
    → AreGiven gives names (readers ++ reader ∷ [])
AreGiven-more gives [] readers name reader are within is one = absurd (none (length readers) within)
  where
    none : (n : ℕ) → n < 0 → ⊥
    none n below = omega (arith, below)
AreGiven-more gives (n ∷ names) [] name reader are within is one = (subst (λ l. gives l reader) is one, tt)
AreGiven-more gives (n ∷ names) (i ∷ readers) name reader are within is one =
    (are.0, AreGiven-more gives names readers name reader are.1 (omega (arith, within)) is one)

-- The first files of some names were opened or could not be, and were checked, and their lines are printed.
pub record AreNamed {R : Type 0} (gives : List ℕ → Option R → Type 0) (known : R → Opened) (which : CheckLine)
    (form : Form) (tail : Tail) (is_shown : Bool) (names : List (List ℕ)) (place : ℕ) (whole : Bool)
    (old held : List ℕ) : Type 0 where
  pub readers : List (Option R)
  pub opened : AreGiven gives names readers
  pub count : length readers ≡ place
  pub printed : ArePrinted which form tail (name_fields form is_shown names) (map (option_map known) readers) whole
      old held

-- none was
pub named-none : {R : Type 0} (gives : List ℕ → Option R → Type 0) (known : R → Opened) (which : CheckLine)
    (form : Form) (tail : Tail) (is_shown : Bool) (names : List (List ℕ)) (held : List ℕ)
    → AreNamed gives known which form tail is_shown names 0 true held held
named-none gives known which form tail is_shown names held =
    record {
      readers = [];
      opened = tt;
      count = refl;
      printed = printed-none which form tail (name_fields form is_shown names) held;
    }

-- one file more is
pub named-more : {R : Type 0} (gives : List ℕ → Option R → Type 0) (known : R → Opened) (which : CheckLine)
    (form : Form) (tail : Tail) (is_shown : Bool) (names : List (List ℕ)) (place : ℕ) (whole one : Bool)
    (old mid new : List ℕ)
    → place < length names → AreNamed gives known which form tail is_shown names place whole old mid
    → ChecksName gives known which form tail is_shown names place mid (Ok one) new
    → AreNamed gives known which form tail is_shown names (place + 1) (whole && one) old new
named-more gives known which form tail is_shown names place whole one old mid new within a next =
    let files = map (option_map known) a.readers in
    let number : place + 1 ≡ 1 + length files =
    omega (arith, a.count, length-map a.readers (option_map known)) in
    record {
      readers = a.readers ++ next.reader ∷ [];
      opened = AreGiven-more gives names a.readers (get_or names place []) next.reader a.opened
          (omega (arith, within, a.count)) (ap (λ n. get_or names n []) (sym a.count)) next.opened;
      count = length-append a.readers (next.reader ∷ []) ∙ ap (λ n. n + 1) a.count;
      printed = subst (λ l. ArePrinted which form tail (name_fields form is_shown names) l (whole && one) old new)
          (sym (map-append (option_map known) a.readers (next.reader ∷ [])))
          (printed-more which form tail (name_fields form is_shown names) files (option_map known next.reader) whole one
          old mid new a.printed
          (subst (λ n. WritesCheck which form tail n (name_fields form is_shown names n) (option_map known next.reader)
          mid (Ok one) new) number next.checks));
    }

-- a growth is refused or a write fails
pub named-fault : {R : Type 0} (gives : List ℕ → Option R → Type 0) (known : R → Opened) (which : CheckLine)
    (form : Form) (tail : Tail) (is_shown : Bool) (names : List (List ℕ)) (place : ℕ) (whole : Bool) (fault : Fault)
    (old mid new : List ℕ)
    → place < length names → AreNamed gives known which form tail is_shown names place whole old mid
    → ChecksName gives known which form tail is_shown names place mid (Err fault) new
    → ChecksNames gives known which form tail is_shown names old (Err fault) new
named-fault gives known which form tail is_shown names place whole fault old mid new within a next =
    let files = map (option_map known) a.readers in
    let number : place + 1 ≡ 1 + length files =
    omega (arith, a.count, length-map a.readers (option_map known)) in
    record {
      readers = a.readers ++ next.reader ∷ [];
      opened = AreGiven-more gives names a.readers (get_or names place []) next.reader a.opened
          (omega (arith, within, a.count)) (ap (λ n. get_or names n []) (sym a.count)) next.opened;
      all = tt;
      checks = subst (λ l. WritesChecks which form tail (name_fields form is_shown names) l old (Err fault) new)
          (sym (map-append (option_map known) a.readers (next.reader ∷ [])))
          (printed-fault which form tail (name_fields form is_shown names) files [] (option_map known next.reader) whole
          fault old mid new a.printed
          (subst (λ n. WritesCheck which form tail n (name_fields form is_shown names n) (option_map known next.reader)
          mid (Err fault) new) number next.checks));
    }

-- all are
pub named-all : {R : Type 0} (gives : List ℕ → Option R → Type 0) (known : R → Opened) (which : CheckLine)
    (form : Form) (tail : Tail) (is_shown : Bool) (names : List (List ℕ)) (place : ℕ) (whole : Bool)
    (old new : List ℕ)
    → place ≡ length names → AreNamed gives known which form tail is_shown names place whole old new
    → ChecksNames gives known which form tail is_shown names old (Ok (whole_finding whole)) new
named-all gives known which form tail is_shown names place whole old new over a =
    record {
      readers = a.readers;
      opened = a.opened;
      all = a.count ∙ over;
      checks = subst (λ r. WritesChecks which form tail (name_fields form is_shown names)
          (map (option_map known) a.readers) old r new)
          (sym (whole-is whole))
          (printed-all which form tail (name_fields form is_shown names) _ whole old new a.printed);
    }

-- what is given for the name at a place of some names is what is given for that name among the texts
pub given-at : {R : Type 0} (gives : List ℕ → Option R → Type 0) (names : List (Bor (List ℕ))) (place : ℕ)
    (none : Bor (List ℕ)) (found reader : Option R)
    → place < length names → gives (get_or names place none).now found → reader ≡ found
    → gives (get_or (map (λ n. n.now) names) place []) reader
given-at gives names place none found reader within given is =
    subst (λ r. gives (get_or (map (λ n. n.now) names) place []) r) (sym is)
    (subst (λ name. gives name found) (sym (get_or-map (λ n. n.now) names place none [] within)) given)

-- and its last field is that of that name among the texts
pub named-at : (form : Form) (is_shown : Bool) (names : List (Bor (List ℕ))) (place : ℕ) (none : Bor (List ℕ))
    → place < length names
    → name_field form is_shown (get_or names place none).now
    ≡ name_fields form is_shown (map (λ n. n.now) names) (place + 1)
named-at form is_shown names place none within =
    let before : place ≡ place + 1 - 1 = omega arith in
    ap (name_field form is_shown)
    (sym (get_or-map (λ n. n.now) names place none [] within)
    ∙ ap (λ n. get_or (map (λ n. n.now) names) n []) before)

-- one file more of some that were all opened
pub next-given : {R : Type 0} (gives : List ℕ → Option R → Type 0) (names : List (Bor (List ℕ))) (old new : List R)
    (place : ℕ) (none : Bor (List ℕ)) (input : R) (found : Option R)
    → place < length names → AreGiven gives (map (λ n. n.now) names) (map Some old) → length old ≡ place
    → gives (get_or names place none).now found → found ≡ Some input → new ≡ old ++ input ∷ []
    → AreGiven gives (map (λ n. n.now) names) (map Some new)
next-given gives names old new place none input found below are count given is all =
    let texts = map (λ n. n.now) names in
    let same : length (map Some old) ≡ place = length-map old Some ∙ count in
    let within : length (map Some old) < length texts =
    omega (arith, below, same, length-map names (λ n. n.now)) in
    let name_is : (get_or names place none).now ≡ get_or texts (length (map Some old)) [] =
    sym (ap (λ n. get_or texts n []) same ∙ get_or-map (λ n. n.now) names place none [] below) in
    subst (λ l. AreGiven gives texts (map Some l)) (sym all)
    (subst (λ l. AreGiven gives texts l) (sym (map-append Some old (input ∷ [])))
    (AreGiven-more gives texts (map Some old) (get_or names place none).now (Some input) are within name_is
    (subst (λ r. gives (get_or names place none).now r) is given)))

-- ---- a file that is checked, and its line

module _ (which : CheckLine) (form : Form) (tail : Tail) (file : ℕ) (name : List ℕ) (opened : Option Opened) where
  -- a growth was refused
  pub check-refused : (held : List ℕ) (fault : Fault) → fault ≡ Memory
      → WritesCheck which form tail file name opened held (Err fault) held
  check-refused held fault is =
      subst (λ (f : Fault). WritesCheck which form tail file name opened held (Err f) held) (sym is) refl

  module _ (asks : Bool) (check : Check) (asks_is : asks ≡ asks_digest which)
      (checked : IsChecked tail asks file opened check) (old new : List ℕ) where
    found : IsChecked tail (asks_digest which) file opened check
    found = subst (λ (a : Bool). IsChecked tail a file opened check) asks_is checked

    -- its line wasn't written whole
    pub check-unwritten : (fault : Fault) → fault ≡ Write
        → Puts {A = Unit {0}} old (Err fault) new (check_line_in which form file name check)
        → WritesCheck which form tail file name opened old (Err fault) new
    check-unwritten fault is put =
        subst (λ (f : Fault). WritesCheck which form tail file name opened old (Err f) new) (sym is)
        (check, found, put)

    -- it was written
    pub check-written : (is_whole : Bool) → is_whole ≡ is_whole_end check.end
        → new ≡ old ++ check_line_in which form file name check
        → WritesCheck which form tail file name opened old (Ok is_whole) new
    check-written is_whole whole put = (check, found, whole, put)

-- the same by another name of each
pub check-as : (which other : CheckLine) (form shown : Form) (tail end : Tail) (file : ℕ) (name called : List ℕ)
    (opened : Option Opened) (old new : List ℕ) (result : Result Bool Fault)
    → which ≡ other → form ≡ shown → tail ≡ end → name ≡ called
    → WritesCheck which form tail file name opened old result new
    → WritesCheck other shown end file called opened old result new
check-as which other form shown tail end file name called opened old new result a b c d x =
    subst (λ (l : List ℕ). WritesCheck other shown end file l opened old result new) d
    (subst (λ (t : Tail). WritesCheck other shown t file name opened old result new) c
    (subst (λ (f : Form). WritesCheck other f tail file name opened old result new) b
    (subst (λ (l : CheckLine). WritesCheck l form tail file name opened old result new) a x)))
