pub mod HeldNotes
pub mod NumbersTold
