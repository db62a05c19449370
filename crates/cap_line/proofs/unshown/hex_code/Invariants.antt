use Rattle.std.proofs.Common.{◌≡◌, ◌<◌, ◌≤◌, ◌-◌, ◌^◌, IsUtf8, chars, take}
use Rattle.std.specs.List.{take_while}
use Rattle.std.specs.Str.Iter.{chars_rest}
use Rattle.std.specs.Str.Parse.{digits_value_after}
use Rattle.cap_line.specs.Shown.{hex_code, is_hex_digit}
use Rattle.cap_line.proofs.unshown.hex_code.Given as goal

-- the digits so far, and those that are to come, write the code
abbrev pub invariant-loop-place : goal.invariant-loop-place
invariant-loop-place l = record {
  within : l.place ≤ 4;
  utf8 : IsUtf8 (chars_rest l.rest);
  small : l.code < 16 ^ l.place;
  code : digits_value_after 16 l.code (take_while is_hex_digit (take (4 - l.place) (chars (chars_rest l.rest))))
      ≡ hex_code (chars l.fn.text);
}
