mod JoinLemmas
mod KindLemmas
mod AnswerLemmas
