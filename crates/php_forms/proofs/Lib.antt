mod Subs
mod WordLemmas
mod SignatureLemmas
mod ModifierLemmas
mod MemberLemmas
mod BodyLemmas
mod ClassLemmas
mod SameFaults
