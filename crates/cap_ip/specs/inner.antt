pub mod HeaderView
