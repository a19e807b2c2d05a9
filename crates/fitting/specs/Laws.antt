-- FitParts reads the parts of the test of "fit together" as statements, Fit the whole; FitCode is what its functions find.
pub mod FitParts
pub mod Fit
pub mod FitCode
