-- What the contracts of commands cite of the answers of others.
pub mod Evaluate
pub mod Check
pub mod Audit
pub mod Accepting
