-- What a reader has to believe: messages and attackers (Term), the state of everything (World), what a step writes (Effect), which steps there are (Step), runs of them and their moments (Run), and what is promised (Promise).
pub mod Term
pub mod World
pub mod Effect
pub mod Step
pub mod Run
pub mod Promise
