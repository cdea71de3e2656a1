pub mod Text
pub mod Grammar
pub mod Machine
pub mod Card
