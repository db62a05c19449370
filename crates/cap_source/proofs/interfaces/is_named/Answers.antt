use Rattle.std.proofs.Common.{◌≡◌, true, false, List, ◌∷◌, refl, sym, ap, ◌∙◌}
use Rattle.std.specs.List.{list_any}
use Rattle.cap_blocks.specs.OptionList.{OptionItem, options_of}
use Rattle.cap_blocks.specs.inner.Options.{options_to_come}
use Rattle.cap_source.specs.TimeBases.{is_name, is_named}
use Rattle.cap_source.proofs.interfaces.is_named.Goals as goal

found_first : (items rest : List OptionItem) (option : OptionItem) → items ≡ option ∷ rest → is_name option ≡ true
    → list_any is_name items ≡ true
found_first items rest option is named = rw (is, named) refl

found_later : (items rest : List OptionItem) (option : OptionItem) → items ≡ option ∷ rest → is_name option ≡ false
    → list_any is_name rest ≡ list_any is_name items
found_later items rest option is other = rw (is, other) refl

pub loop-option-init : goal.loop-option-init
loop-option-init c = (
  tt,
  tt,
  ap (λ options. list_any is_name (options_to_come options)) c.into_iter-option-iterator.ensures.into_iter_gives
      ∙ (ap (list_any is_name) c.new-option-items.ensures.items
      ∙ ap (λ rest. list_any is_name (options_of c.args.order rest)) c.split_at.ensures.back),
)

pub loop-option-preserved : goal.loop-option-preserved
loop-option-preserved c = (
  tt,
  tt,
  found_later _ _ _ c.in-Some.ensures.steps (sym c.is_name.ensures ∙ c.if-is_name.false)
      ∙ c.loop-option.invariant.2,
)

pub returns-then-is_name : goal.returns-then-is_name
unfolding is_named
returns-then-is_name c =
    sym (found_first _ _ _ c.in-Some.ensures.steps (sym c.is_name.ensures ∙ c.if-is_name.true))
    ∙ c.loop-option.invariant.2

pub returns : goal.returns
unfolding is_named
returns c = sym (ap (list_any is_name) c.in-None.ensures.steps.0) ∙ c.loop-option.invariant.2
