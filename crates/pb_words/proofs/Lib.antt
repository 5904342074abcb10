mod Common
mod lemmas
