pub mod StampLaws
pub mod TimeLaws
pub mod Orderings
