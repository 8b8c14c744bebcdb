mod Acting
mod Asking
mod Declaring
