pub mod Automaton
pub mod Judgement
pub mod Linear
pub mod Outcomes
pub mod Settled
pub mod Worked
