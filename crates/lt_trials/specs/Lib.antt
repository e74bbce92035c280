pub mod LineHands
