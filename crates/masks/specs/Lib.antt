pub mod MustBeZero
