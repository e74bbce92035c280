pub mod Shapes
pub mod Terms
pub mod Literals
pub mod Unclosed
pub mod Statements
pub mod Programs
pub mod Scripts
pub mod Agrees
pub mod BodiesAgree
pub mod Variables
pub mod ItemsAgree
pub mod FaultsAgree
pub mod Items
mod Examples
