pub mod Classifying
