mod OfKind
mod Fronts
